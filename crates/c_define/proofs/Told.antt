-- What definitions do to the macros that the tables tell.
use Rattle.std.proofs.Common.{◌≡◌, ℕ, zero, suc, ◌+◌, ◌-◌, ◌<◌, ◌≤◌, Bool, true, false, subst, max, cond, ltb, eqb, List, [], ◌∷◌, map, length, length-append, get_or, Option, Some, None, refl, sym, ap, ◌∙◌, arith, get_or-set_other}
use Rattle.std.specs.Prelude.{is_some}
use Rattle.std.proofs.Math.ListN.{set}
use Rattle.std.proofs.lemmas.Bool.{eqb-true, eq-eqb, ltb-true, ltb-false}
use Rattle.std.specs.Str.{bytes_eq}
use Rattle.c_token.specs.declared.token.CToken.{CToken}
use Rattle.c_macros.specs.declared.token.Token.{Token}
use Rattle.c_macros.specs.Expansion.{count}
use Rattle.c_macros.specs.Keeping.{State, put, defined as number_defined}
use Rattle.c_macros.proofs.Flags.{fewer}
use Rattle.c_macros.proofs.Puts.{put_length}
use Rattle.c_define.specs.declared.definitions.Written.{Written}
use Rattle.c_define.specs.Definitions.{Macro, no_macros, defined, undefined}
use Rattle.c_define.specs.Numbers.{number_of, token_at, AreIn, AreTables, Tables, macro_at, macros_of, Wider, AreNumbers}
use Rattle.c_define.proofs.Named.{same_bytes, bytes_same, number_old, number_within, get_old}
use Rattle.c_define.proofs.Wide.{all_still_in, tokens_same}

-- ---- lists

pub put_same : {A : Type 0} (xs : List A) (n : ℕ) (x d e : A) → get_or (put xs n x d) n e ≡ x
put_same [] zero x d e = refl
put_same [] (suc n) x d e = put_same [] n x d e
put_same (y ∷ ys) zero x d e = refl
put_same (y ∷ ys) (suc n) x d e = put_same ys n x d e

pub put_other : {A : Type 0} (xs : List A) (n m : ℕ) (x d : A) → (m ≡ n → ⊥) → get_or (put xs n x d) m d ≡ get_or xs m d
put_other [] zero zero x d ne = absurd (ne refl)
put_other [] zero (suc m) x d ne = refl
put_other [] (suc n) zero x d ne = refl
put_other [] (suc n) (suc m) x d ne = put_other [] n m x d (λ e. ne (ap suc e))
put_other (y ∷ ys) zero zero x d ne = absurd (ne refl)
put_other (y ∷ ys) zero (suc m) x d ne = refl
put_other (y ∷ ys) (suc n) zero x d ne = refl
put_other (y ∷ ys) (suc n) (suc m) x d ne = put_other ys n m x d (λ e. ne (ap suc e))

past : {A : Type 0} (xs : List A) (n : ℕ) (d : A) → length xs ≤ n → get_or xs n d ≡ d
past [] n d le = refl
past (x ∷ xs) zero d le = absurd (omega arith)
past (x ∷ xs) (suc n) d le = past xs n d (omega arith)

count_put : (on : List Bool) (n : ℕ) → get_or on n false ≡ false → count (put on n true false) ≡ count on + 1
unfolding count
count_put [] zero e = omega arith
count_put [] (suc n) e = count_put [] n e
count_put (b ∷ bs) zero e = rw e (omega arith)
count_put (true ∷ bs) (suc n) e = omega (arith, count_put bs n e)
count_put (false ∷ bs) (suc n) e = count_put bs n e

set_down : (on : List Bool) (n : ℕ) → get_or on n false ≡ false → set on n false ≡ on
set_down [] n e = refl
set_down (b ∷ bs) zero e = ap (λ x. x ∷ bs) (sym e)
set_down (b ∷ bs) (suc n) e = ap (λ l. b ∷ l) (set_down bs n e)

down_there : (on : List Bool) (n : ℕ) → get_or (set on n false) n false ≡ false
down_there [] n = refl
down_there (b ∷ bs) zero = refl
down_there (b ∷ bs) (suc n) = down_there bs n

-- ---- definitions

not_same : (a b : List ℕ) → (a ≡ b → ⊥) → bytes_eq a b ≡ false
not_same a b ne = pick (bytes_eq a b) refl
  where
    pick : (v : Bool) → bytes_eq a b ≡ v → bytes_eq a b ≡ false
    pick false e = e
    pick true e = absurd (ne (same_bytes a b e))

no_macro : (t : Tables) (n : ℕ) → get_or t.state.on n false ≡ false → macro_at t (Some n) ≡ None
no_macro t n e = rw e refl

is_no_macro : (t : Tables) (n : ℕ) → macro_at t (Some n) ≡ None → get_or t.state.on n false ≡ false
is_no_macro t n e = pick (get_or t.state.on n false) refl e
  where
    m : Macro
    m = record { body = map (token_at t.names t.others) (get_or t.state.bodies n []); written = get_or t.written n [] }

    pick : (b : Bool) → get_or t.state.on n false ≡ b → cond b (Some m) None ≡ None → get_or t.state.on n false ≡ false
    pick false is e = is
    pick true is e = cc

-- another name has another number
apart : (names : List (List ℕ)) (x y : List ℕ) (m n : ℕ) → number_of names x ≡ Some m → number_of names y ≡ Some n → bytes_eq x y ≡ false → m ≡ n → ⊥
apart names x y m n xe ye unlike e =
    let a = (number_within names x m xe).1 in
    let b = (number_within names y n ye).1 in
    let same : x ≡ y = sym a ∙ ap (λ k. get_or names k []) e ∙ b in
    let t = ap (bytes_eq x) same in let s = bytes_same x in cc

module _ (t : Tables) (h : AreTables t.names t.others t.state) (t' : Tables) (w : Wider t.names t.others t'.names t'.others) (x : List ℕ) (n : ℕ) (at : number_of t'.names x ≡ Some n) where
  old_number : (y : List ℕ) (m : ℕ) → number_of t.names y ≡ Some m → number_of t'.names y ≡ Some m
  old_number y m e = ap (λ l. number_of l y) w.names_are ∙ number_old t.names w.more_names y m e

  -- a name that is met first is no macro
  new_is_none : (y : List ℕ) (m : ℕ) → number_of t.names y ≡ None → number_of t'.names y ≡ Some m → get_or t.state.on m false ≡ false
  new_is_none y m none some = pick (ltb m (length t.names)) refl
    where
      inner : m < length t.names → get_or t.names m [] ≡ y
      inner lt = sym (get_old t.names w.more_names m [] lt) ∙ ap (λ l. get_or l m []) (sym w.names_are) ∙ (number_within t'.names y m some).1

      pick : (b : Bool) → ltb m (length t.names) ≡ b → get_or t.state.on m false ≡ false
      pick true e =
          let lt = ltb-true m (length t.names) e in
          let found : number_of t.names y ≡ Some m = ap (number_of t.names) (sym (inner lt)) ∙ h.distinct m lt in absurd (let no = sym none ∙ found in cc)
      pick false e = let ge = ltb-false m (length t.names) e in let k = h.named in past t.state.on m false (omega arith)

  module _ (tokens : List Token) (body : List CToken) (written : List Written) (numbers : AreNumbers t'.names t'.others body tokens) (written_is : t'.written ≡ put t.written n written [])
      (state_is : t'.state ≡ number_defined t.state n tokens) (none : (macros_of t).of x ≡ None) where
    abbrev made : Macro
    made = record { body = body; written = written }

    down : get_or t.state.on n false ≡ false
    down = pick (number_of t.names x) refl none
      where
        pick : (o : Option ℕ) → number_of t.names x ≡ o → macro_at t o ≡ None → get_or t.state.on n false ≡ false
        pick None e f = new_is_none x n e at
        pick (Some k) e f = let same : Some k ≡ Some n = sym (old_number x k e) ∙ at in let equal : k ≡ n = cc in ap (λ j. get_or t.state.on j false) (sym equal) ∙ is_no_macro t k f

    on_is : t'.state.on ≡ put t.state.on n true false
    on_is = ap (λ (s : State). s.on) state_is

    bodies_are : t'.state.bodies ≡ put t.state.bodies n tokens []
    bodies_are = ap (λ (s : State). s.bodies) state_is

    this : macro_at t' (Some n) ≡ Some made
    this =
        let on : get_or t'.state.on n false ≡ true = ap (λ l. get_or l n false) on_is ∙ put_same t.state.on n true false false in
        let b : map (token_at t'.names t'.others) (get_or t'.state.bodies n []) ≡ body = ap (λ l. map (token_at t'.names t'.others) (get_or l n [])) bodies_are ∙ ap (map (token_at t'.names t'.others)) (put_same t.state.bodies n tokens [] []) ∙ numbers.tokens_are in
        let wr : get_or t'.written n [] ≡ written = ap (λ l. get_or l n []) written_is ∙ put_same t.written n written [] [] in
        rw (on, b, wr) refl

    other_macro : (m : ℕ) → (m ≡ n → ⊥) → macro_at t' (Some m) ≡ macro_at t (Some m)
    other_macro m ne =
        let on : get_or t'.state.on m false ≡ get_or t.state.on m false = ap (λ l. get_or l m false) on_is ∙ put_other t.state.on n m true false ne in
        let b : map (token_at t'.names t'.others) (get_or t'.state.bodies m []) ≡ map (token_at t.names t.others) (get_or t.state.bodies m [])
        = ap (λ l. map (token_at t'.names t'.others) (get_or l m [])) bodies_are ∙ ap (map (token_at t'.names t'.others)) (put_other t.state.bodies n m tokens [] ne)
        ∙ tokens_same t.names t.others t'.names t'.others w (get_or t.state.bodies m []) (h.bodies m) in
        let wr : get_or t'.written m [] ≡ get_or t.written m [] = ap (λ l. get_or l m []) written_is ∙ put_other t.written n m written [] ne in
        rw (on, b, wr) refl

    other_name : (y : List ℕ) → bytes_eq y x ≡ false → macro_at t' (number_of t'.names y) ≡ macro_at t (number_of t.names y)
    other_name y unlike = pick (number_of t.names y) refl (number_of t'.names y) refl
      where
        pick : (o : Option ℕ) → number_of t.names y ≡ o → (p : Option ℕ) → number_of t'.names y ≡ p → macro_at t' (number_of t'.names y) ≡ macro_at t (number_of t.names y)
        pick (Some m) e p pe = ap (macro_at t') (old_number y m e) ∙ other_macro m (apart t'.names y x m n (old_number y m e) at unlike) ∙ ap (macro_at t) (sym e)
        pick None e None pe = ap (macro_at t') pe ∙ ap (macro_at t) (sym e)
        pick None e (Some m) pe = ap (macro_at t') pe ∙ other_macro m (apart t'.names y x m n pe at unlike) ∙ no_macro t m (new_is_none y m e pe) ∙ ap (macro_at t) (sym e)

    each : (y : List ℕ) → (macros_of t').of y ≡ (defined (macros_of t) x made).of y
    each y = pick (bytes_eq y x) refl
      where
        pick : (b : Bool) → bytes_eq y x ≡ b → macro_at t' (number_of t'.names y) ≡ cond b (Some made) (macro_at t (number_of t.names y))
        pick true e = ap (λ z. macro_at t' (number_of t'.names z)) (same_bytes y x e) ∙ ap (macro_at t') at ∙ this
        pick false e = other_name y e

    pub defined_told : macros_of t' ≡ defined (macros_of t) x made
    defined_told =
        let size : count t'.state.on ≡ count t.state.on + 1 = ap count on_is ∙ count_put t.state.on n down in
        λ i. record { of = λ y. (each y) i; size = size i }

    body_in : (m : ℕ) → AreIn t'.names t'.others (get_or t'.state.bodies m [])
    body_in m = subst (λ l. AreIn t'.names t'.others (get_or l m [])) (sym bodies_are) (pick (eqb m n) refl)
      where
        pick : (b : Bool) → eqb m n ≡ b → AreIn t'.names t'.others (get_or (put t.state.bodies n tokens []) m [])
        pick true e = let same = eqb-true m n e in subst (AreIn t'.names t'.others) (sym (ap (λ k. get_or (put t.state.bodies n tokens []) k []) same ∙ put_same t.state.bodies n tokens [] [])) numbers.are_in
        pick false e = subst (AreIn t'.names t'.others) (sym (put_other t.state.bodies n m tokens [] (λ same. let s : eqb m n ≡ true = eq-eqb m n same in cc))) (all_still_in t.names t.others t'.names t'.others w (get_or t.state.bodies m []) (h.bodies m))

    named_more : length t'.state.on ≤ length t'.names
    named_more =
        let a = ap length on_is in
        let b = put_length t.state.on n true false in
        let c = (number_within t'.names x n at).0 in
        let d = ap length w.names_are in
        let k = h.named in
        omega (arith, length-append t.names w.more_names)

    pub defined_tables : AreTables t'.names t'.others t'.state
    defined_tables = record { distinct = w.distinct h.distinct; bodies = body_in; named = named_more }

-- tables whose bodies and flags told nothing new
pub tables_kept : (names : List (List ℕ)) (others : List CToken) (state : State) (names' : List (List ℕ)) (others' : List CToken) (state' : State) → AreTables names others state → Wider names others names' others'
    → ((n : ℕ) → get_or state'.bodies n [] ≡ get_or state.bodies n []) → length state'.on ≤ length names' → AreTables names' others' state'
tables_kept names others state names' others' state' h w same le = record {
  distinct = w.distinct h.distinct;
  bodies = λ n. subst (AreIn names' others') (sym (same n)) (all_still_in names others names' others' w (get_or state.bodies n []) (h.bodies n));
  named = le;
}

pub names_longer : (names : List (List ℕ)) (others : List CToken) (names' : List (List ℕ)) (others' : List CToken) → Wider names others names' others' → length names ≤ length names'
names_longer names others names' others' w = let e = ap length w.names_are in omega (arith, length-append names w.more_names)

-- ---- the end of a definition

module _ (t : Tables) (x : List ℕ) where
  pub unmade_none : number_of t.names x ≡ None → macros_of t ≡ undefined (macros_of t) x
  unmade_none e = λ i. record { of = λ y. (each y) i; size = size i }
    where
      none : macro_at t (number_of t.names x) ≡ None
      none = ap (macro_at t) e

      size : count t.state.on ≡ cond (is_some (macro_at t (number_of t.names x))) (count t.state.on - 1) (count t.state.on)
      size = rw none refl

      each : (y : List ℕ) → macro_at t (number_of t.names y) ≡ cond (bytes_eq y x) None (macro_at t (number_of t.names y))
      each y = pick (bytes_eq y x) refl
        where
          pick : (b : Bool) → bytes_eq y x ≡ b → macro_at t (number_of t.names y) ≡ cond b None (macro_at t (number_of t.names y))
          pick true f = ap (λ z. macro_at t (number_of t.names z)) (same_bytes y x f) ∙ none
          pick false f = refl

  module _ (n : ℕ) (at : number_of t.names x ≡ Some n) where
    abbrev fewer_tables : Tables
    fewer_tables = record t { state = record { bodies = t.state.bodies; on = set t.state.on n false } }

    pub unmade_some : macros_of fewer_tables ≡ undefined (macros_of t) x
    unmade_some = λ i. record { of = λ y. (each y) i; size = size i }
      where
        other : (m : ℕ) → (m ≡ n → ⊥) → macro_at fewer_tables (Some m) ≡ macro_at t (Some m)
        other m ne = rw get_or-set_other refl

        each : (y : List ℕ) → macro_at fewer_tables (number_of t.names y) ≡ cond (bytes_eq y x) None (macro_at t (number_of t.names y))
        each y = pick (bytes_eq y x) refl (number_of t.names y) refl
          where
            pick : (b : Bool) → bytes_eq y x ≡ b → (o : Option ℕ) → number_of t.names y ≡ o → macro_at fewer_tables o ≡ cond b None (macro_at t o)
            pick true f None e = refl
            pick true f (Some m) e = let same : Some m ≡ Some n = sym e ∙ ap (number_of t.names) (same_bytes y x f) ∙ at in let equal : m ≡ n = cc in rw (equal, down_there t.state.on n) refl
            pick false f None e = refl
            pick false f (Some m) e = other m (apart t.names y x m n e at f)

        sized : (b : Bool) (m : Macro) → get_or t.state.on n false ≡ b → count (set t.state.on n false) ≡ cond (is_some (cond b (Some m) None)) (count t.state.on - 1) (count t.state.on)
        sized true m f = let e = fewer t.state.on n f in omega arith
        sized false m f = ap count (set_down t.state.on n f)

        size : count (set t.state.on n false) ≡ cond (is_some (macro_at t (number_of t.names x))) (count t.state.on - 1) (count t.state.on)
        size = rw at (sized (get_or t.state.on n false) _ refl)

pub nothing_told : (t : Tables) → t.names ≡ [] → t.state ≡ record { bodies = []; on = [] } → macros_of t ≡ no_macros
unfolding number_of count
nothing_told t ne se = λ i. record { of = λ y. (each y) i; size = (ap (λ (s : State). count s.on) se) i }
  where
    each : (y : List ℕ) → macro_at t (number_of t.names y) ≡ None
    each y = ap (λ l. macro_at t (number_of l y)) ne

pub named_longer : (names : List (List ℕ)) (others : List CToken) (state : State) (names' : List (List ℕ)) (others' : List CToken) (state' : State) → AreTables names others state → Wider names others names' others'
    → (x : List ℕ) (n : ℕ) → number_of names' x ≡ Some n → length state'.on ≤ max (length state.on) (n + 1) → length state'.on ≤ length names'
named_longer names others state names' others' state' h w x n at le =
    let a = names_longer names others names' others' w in
    let b = (number_within names' x n at).0 in
    let k = h.named in
    omega (arith, a, b, k, le)
