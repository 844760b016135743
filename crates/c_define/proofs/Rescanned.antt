-- The function gives what rescanning gives, and nothing else.
use Rattle.std.proofs.Common.{◌≡◌, ℕ, zero, suc, ◌-◌, ◌≤◌, Bool, true, false, cond, List, [], ◌∷◌, ◌++◌, length, Option, Some, None, refl, sym, ap, ◌∙◌, subst, arith, append_assoc}
use Rattle.std.specs.Prelude.{is_some}
use Rattle.std.specs.Str.{bytes_eq}
use Rattle.std.proofs.lemmas.List.{append-nil}
use Rattle.c_token.specs.declared.token.CToken.{CToken}
use Rattle.c_token.specs.declared.token.CToken.TheVariants.{Id, Number, Text, Byte, Mark}
use Rattle.c_define.specs.Definitions.{Macro, Names, Macros, defined, undefined, Made, MadeNone, MadeDefined, MadeUndefined}
use Rattle.c_define.specs.Expansion.{seen, body_of, without, choose, Expanding, along, among, expansion}
use Rattle.c_define.specs.Rescanning.{Found, Within, is_among, replacement, with_name, found, Rescans, Ends, Stays, Replaced, Expands}
use Rattle.c_define.proofs.Named.{same_bytes}

-- ---- names that are no macros where some are replaced

abbrev minus : Names → List (List ℕ) → Names
minus names [] = names
minus names (n ∷ ns) = without (minus names ns) (Id n)

minus_name : (names : Names) (x : List ℕ) (ms : List (List ℕ)) → replacement names ms (Id x) ≡ body_of (minus names ms) (Id x)
minus_name names x [] = refl
minus_name names x (n ∷ ns) = pick (bytes_eq x n) (minus_name names x ns)
  where
    pick : (b : Bool) → cond (is_among x ns) None (body_of names (Id x)) ≡ body_of (minus names ns) (Id x) → cond (cond b true (is_among x ns)) None (body_of names (Id x)) ≡ seen (λ (m : Macro). m.body) (cond b None (minus names ns x))
    pick true e = refl
    pick false e = e

minus_is : (names : Names) (ms : List (List ℕ)) (t : CToken) → replacement names ms t ≡ body_of (minus names ms) t
minus_is names ms (Id x) = minus_name names x ms
minus_is names ms (Number s) = refl
minus_is names ms (Text s) = refl
minus_is names ms (Byte s) = refl
minus_is names ms (Mark m) = refl

inner_is : (names : Names) (ms : List (List ℕ)) (t : CToken) → without (minus names ms) t ≡ minus names (with_name t ms)
inner_is names ms (Id x) = refl
inner_is names ms (Number s) = refl
inner_is names ms (Text s) = refl
inner_is names ms (Byte s) = refl
inner_is names ms (Mark m) = refl

-- ---- how many names are macros

record Few (k : ℕ) (names : Names) : Type 0 where
  list : List (List ℕ)
  few : length list ≤ k
  all : (x : List ℕ) → is_some (names x) ≡ true → is_among x list ≡ true

abbrev removed : List ℕ → List (List ℕ) → List (List ℕ)
removed x [] = []
removed x (y ∷ ys) = cond (bytes_eq x y) ys (y ∷ removed x ys)

one_removed : (x : List ℕ) (l : List (List ℕ)) → is_among x l ≡ true → length l ≡ suc (length (removed x l))
one_removed x [] e = cc
one_removed x (y ∷ ys) e = pick (bytes_eq x y) e (one_removed x ys)
  where
    pick : (b : Bool) → cond b true (is_among x ys) ≡ true → (is_among x ys ≡ true → length ys ≡ suc (length (removed x ys))) → length (y ∷ ys) ≡ suc (length (cond b ys (y ∷ removed x ys)))
    pick true e ih = omega arith
    pick false e ih = omega (arith, ih e)

behind_other : (b c : Bool) → b ≡ false → cond b true c ≡ true → c ≡ true
behind_other true c down e = cc
behind_other false c down e = e

among_more : (b c d : Bool) → cond b true c ≡ true → (c ≡ true → d ≡ true) → cond b true d ≡ true
among_more true c d e ih = refl
among_more false c d e ih = ih e

still_among : (x z : List ℕ) (l : List (List ℕ)) → bytes_eq z x ≡ false → is_among z l ≡ true → is_among z (removed x l) ≡ true
still_among x z [] ne e = e
still_among x z (y ∷ ys) ne e = pick (bytes_eq x y) refl e (still_among x z ys ne)
  where
    pick : (b : Bool) → bytes_eq x y ≡ b → cond (bytes_eq z y) true (is_among z ys) ≡ true → (is_among z ys ≡ true → is_among z (removed x ys) ≡ true) → is_among z (cond b ys (y ∷ removed x ys)) ≡ true
    pick true be e ih = behind_other (bytes_eq z y) (is_among z ys) (ap (bytes_eq z) (sym (same_bytes x y be)) ∙ ne) e
    pick false be e ih = among_more (bytes_eq z y) (is_among z ys) (is_among z (removed x ys)) e ih

is_there : (o : Option Macro) (body : List CToken) → seen (λ (m : Macro). m.body) o ≡ Some body → is_some o ≡ true
is_there None body e = cc
is_there (Some m) body e = refl

all_but : (names : Names) (n : List ℕ) (l : List (List ℕ)) → ((x : List ℕ) → is_some (names x) ≡ true → is_among x l ≡ true) → (x : List ℕ) → is_some (cond (bytes_eq x n) None (names x)) ≡ true → is_among x (removed n l) ≡ true
all_but names n l all x = pick (bytes_eq x n) refl
  where
    pick : (b : Bool) → bytes_eq x n ≡ b → is_some (cond b None (names x)) ≡ true → is_among x (removed n l) ≡ true
    pick true be e = cc
    pick false be e = still_among n x l be (all x e)

fewer : (k : ℕ) (names : Names) → Few (suc k) names → (t : CToken) (body : List CToken) → body_of names t ≡ Some body → Few k (without names t)
fewer k names f (Id n) body e =
    let l = f.few in
    let one = one_removed n f.list (f.all n (is_there (names n) body e)) in
    record { list = removed n f.list; few = omega arith; all = all_but names n f.list f.all }
fewer k names f (Number s) body e = cc
fewer k names f (Text s) body e = cc
fewer k names f (Byte s) body e = cc
fewer k names f (Mark m) body e = cc

none_among : (n : List ℕ) (l : List (List ℕ)) → length l ≤ 0 → is_among n l ≡ true → ⊥
none_among n [] le e = cc
none_among n (y ∷ ys) le e = absurd (omega arith)

none_there : (names : Names) → Few 0 names → (t : CToken) (body : List CToken) → body_of names t ≡ Some body → ⊥
none_there names f (Id n) body e = none_among n f.list f.few (f.all n (is_there (names n) body e))
none_there names f (Number s) body e = cc
none_there names f (Text s) body e = cc
none_there names f (Byte s) body e = cc
none_there names f (Mark m) body e = cc

defined_few : (ms : Macros) (name : List ℕ) (m : Macro) → Few ms.size ms.of → Few (defined ms name m).size (defined ms name m).of
defined_few ms name m f =
    let l = f.few in
    record { list = name ∷ f.list; few = omega arith; all = λ x. pick x (bytes_eq x name) }
  where
    pick : (x : List ℕ) (b : Bool) → is_some (cond b (Some m) (ms.of x)) ≡ true → cond b true (is_among x f.list) ≡ true
    pick x true e = refl
    pick x false e = f.all x e

undefined_few : (ms : Macros) (name : List ℕ) → Few ms.size ms.of → Few (undefined ms name).size (undefined ms name).of
undefined_few ms name f = pick (is_some (ms.of name)) refl
  where
    kept : (x : List ℕ) (b : Bool) → is_some (cond b None (ms.of x)) ≡ true → is_among x f.list ≡ true
    kept x true e = cc
    kept x false e = f.all x e

    pick : (b : Bool) → is_some (ms.of name) ≡ b → Few (cond b (ms.size - 1) ms.size) (undefined ms name).of
    pick true be =
        let l = f.few in
        let one = one_removed name f.list (f.all name be) in
        record { list = removed name f.list; few = omega arith; all = all_but ms.of name f.list f.all }
    pick false be = record { list = f.list; few = f.few; all = λ x. kept x (bytes_eq x name) }

made_few : (ms : Macros) → Made ms → Few ms.size ms.of
made_few ms MadeNone = record { list = []; few = omega arith; all = λ x e. cc }
made_few ms (MadeDefined before name m made none) = defined_few before name m (made_few before made)
made_few ms (MadeUndefined before name made) = undefined_few before name (made_few before made)

-- ---- what the function gives is what rescanning gives

module _ (names : Names) where
  abbrev Inside : List (List ℕ) → Expanding → Type 0
  Inside ms inside = (t : CToken) (list : List CToken) → replacement names ms t ≡ Some list → (rest : List Found) (out : List CToken) → Rescans names rest out
      → Rescans names (found (with_name t ms) list ++ rest) (inside (without (minus names ms) t) list ++ out)

  along_rescans : (ms : List (List ℕ)) (inside : Expanding) → Inside ms inside → (ts : List CToken) (rest : List Found) (out : List CToken) → Rescans names rest out → Rescans names (found ms ts ++ rest) (along inside (minus names ms) ts ++ out)
  unfolding along
  along_rescans ms inside each [] rest out d = d
  along_rescans ms inside each (t ∷ ts) rest out d = pick (body_of (minus names ms) t) refl (along_rescans ms inside each ts rest out d)
    where
      pick : (o : Option (List CToken)) → body_of (minus names ms) t ≡ o → Rescans names (found ms ts ++ rest) (along inside (minus names ms) ts ++ out)
          → Rescans names (Within t ms ∷ (found ms ts ++ rest)) (choose o (t ∷ along inside (minus names ms) ts) (λ body. inside (without (minus names ms) t) body ++ along inside (minus names ms) ts) ++ out)
      pick None e d = Stays t ms (found ms ts ++ rest) (along inside (minus names ms) ts ++ out) (minus_is names ms t ∙ e) d
      pick (Some body) e d =
          let r = minus_is names ms t ∙ e in
          let a = inside (without (minus names ms) t) body in
          let b = along inside (minus names ms) ts in
          Replaced t ms body (found ms ts ++ rest) ((a ++ b) ++ out) r
          (subst (λ (o : List CToken). Rescans names (found (with_name t ms) body ++ (found ms ts ++ rest)) o) (sym (append_assoc a b out)) (each t body r (found ms ts ++ rest) (b ++ out) d))

  among_rescans : (k : ℕ) (ms : List (List ℕ)) → Few k (minus names ms) → (ts : List CToken) (rest : List Found) (out : List CToken) → Rescans names rest out → Rescans names (found ms ts ++ rest) (among k (minus names ms) ts ++ out)
  unfolding among
  among_rescans zero ms f = along_rescans ms (λ n ts. []) (λ t list e. absurd (none_there (minus names ms) f t list (sym (minus_is names ms t) ∙ e)))
  among_rescans (suc k) ms f =
      along_rescans ms (among k) (λ t list e rest out d.
      let inner = subst (Few k) (inner_is names ms t) (fewer k (minus names ms) f t list (sym (minus_is names ms t) ∙ e)) in
      subst (λ (n : Names). Rescans names (found (with_name t ms) list ++ rest) (among k n list ++ out)) (sym (inner_is names ms t)) (among_rescans k (with_name t ms) inner list rest out d))

pub expands : (ms : Macros) → Made ms → (ts : List CToken) → Expands ms.of ts (expansion ms ts)
unfolding expansion
expands ms made ts =
    let d = among_rescans ms.of ms.size [] (made_few ms made) ts [] [] Ends in
    let e = subst (λ (o : List CToken). Rescans ms.of (found [] ts ++ []) o) (append-nil (among ms.size ms.of ts)) d in
    subst (λ (l : List Found). Rescans ms.of l (among ms.size ms.of ts)) (append-nil (found [] ts)) e

-- ---- and there is no other

abbrev Next : Names → CToken → List (List ℕ) → List Found → Option (List CToken) → List CToken → Type 0
Next names t ms rest None out = (more : List CToken) × (out ≡ t ∷ more) × Rescans names rest more
Next names t ms rest (Some list) out = Rescans names (found (with_name t ms) list ++ rest) out

abbrev Shape : Names → List Found → List CToken → Type 0
Shape names [] out = out ≡ []
Shape names (Within t ms ∷ rest) out = Next names t ms rest (replacement names ms t) out

shape : (names : Names) (l : List Found) (out : List CToken) → Rescans names l out → Shape names l out
shape names l out Ends = refl
shape names l out (Stays t ms rest more e d) = subst (λ (o : Option (List CToken)). Next names t ms rest o (t ∷ more)) (sym e) (more, refl, d)
shape names l out (Replaced t ms list rest more e d) = subst (λ (o : Option (List CToken)). Next names t ms rest o more) (sym e) d

only : (names : Names) (l : List Found) (out : List CToken) → Rescans names l out → (other : List CToken) → Rescans names l other → other ≡ out
only names l out Ends other x = shape names [] other x
only names l out (Stays t ms rest more e d) other x =
    let s : Next names t ms rest None other = subst (λ (o : Option (List CToken)). Next names t ms rest o other) e (shape names (Within t ms ∷ rest) other x) in
    s.1 ∙ ap (λ l. t ∷ l) (only names rest more d s.0 s.2)
only names l out (Replaced t ms list rest more e d) other x =
    let s : Next names t ms rest (Some list) other = subst (λ (o : Option (List CToken)). Next names t ms rest o other) e (shape names (Within t ms ∷ rest) other x) in
    only names (found (with_name t ms) list ++ rest) more d other s

pub only_expansion : (ms : Macros) → Made ms → (ts out : List CToken) → Expands ms.of ts out → out ≡ expansion ms ts
only_expansion ms made ts out x = only ms.of (found [] ts) (expansion ms ts) (expands ms made ts) out x
