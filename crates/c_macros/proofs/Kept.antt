-- What is remembered stays right where a name changes that no remembered macro met.
use Rattle.std.proofs.Common.{◌≡◌, ℕ, zero, suc, ◌≤◌, Bool, true, false, cond, eqb, List, [], ◌∷◌, ◌++◌, take, length, get_or, refl, sym, ap, ◌∙◌, subst, arith, get_or-set_other}
use Rattle.std.proofs.Math.ListN.{set, length-set}
use Rattle.std.proofs.Math.Seq.{take-append_seam}
use Rattle.std.proofs.lemmas.Bool.{eq-eqb}
use Rattle.c_macros.specs.declared.token.Token.{Token}
use Rattle.c_macros.specs.Expansion.{Bodies, Macros}
use Rattle.c_macros.specs.Void.{member, AllIn, AreVoid, AreOn}
use Rattle.c_macros.specs.Remembering.{Remembers}
use Rattle.c_macros.specs.Keeping.{put, AreTracked, Keeps}

abbrev IsNot : ℕ → ℕ → Type 0
IsNot m n = m ≡ n → ⊥

-- a name that is in the list, and one that isn't, are two
apart : (m n : ℕ) (names : List ℕ) → member m names ≡ true → member n names ≡ false → IsNot m n
apart m n names a b same = let t = ap (λ k. member k names) same in cc

head_in : (n : ℕ) (names : List ℕ) → member n (n ∷ names) ≡ true
head_in n names = rw (eq-eqb n n refl) refl

tail_out : (n k : ℕ) (names : List ℕ) → member n (k ∷ names) ≡ false → member n names ≡ false
tail_out n k names e = pick (eqb n k) e
  where
    pick : (b : Bool) → cond b true (member n names) ≡ false → member n names ≡ false
    pick true e = cc
    pick false e = e

void_still : (bodies bodies' : Bodies) (n : ℕ) → ((m : ℕ) → IsNot m n → get_or bodies' m [] ≡ get_or bodies m []) → (names : List ℕ) → member n names ≡ false → AreVoid bodies names → AreVoid bodies' names
void_still bodies bodies' n same [] out v = tt
void_still bodies bodies' n same (k ∷ names) out v =
    let body : get_or bodies' k [] ≡ get_or bodies k [] = same k (apart k n (k ∷ names) (head_in k names) out) in
    (subst (λ (ts : List Token). AllIn ts names) (sym body) v.0, void_still bodies bodies' n same names (tail_out n k names out) v.1)

on_still : (on on' : Macros) (n : ℕ) → ((m : ℕ) → IsNot m n → get_or on m false ≡ true → get_or on' m false ≡ true) → (names : List ℕ) → member n names ≡ false → AreOn on names → AreOn on' names
on_still on on' n same [] out a = tt
on_still on on' n same (k ∷ names) out a = (same k (apart k n (k ∷ names) (head_in k names) out) a.0, on_still on on' n same names (tail_out n k names out) a.1)

pub still_remembers : (bodies bodies' : Bodies) (on on' : Macros) (void void' : List Bool) (n : ℕ) → Remembers bodies on void → get_or void n false ≡ false
    → ((m : ℕ) → (m ≡ n → ⊥) → get_or bodies' m [] ≡ get_or bodies m []) → ((m : ℕ) → (m ≡ n → ⊥) → get_or on m false ≡ true → get_or on' m false ≡ true)
    → ((m : ℕ) → get_or void' m false ≡ get_or void m false) → length on' ≤ length void' → Remembers bodies' on' void'
still_remembers bodies bodies' on on' void void' n h down bs os vs le =
    let out : member n h.names ≡ false = sym (h.flags n) ∙ down in
    record {
      names = h.names;
      are_void = void_still bodies bodies' n bs h.names out h.are_void;
      are_on = on_still on on' n os h.names out h.are_on;
      flags = λ m. vs m ∙ h.flags m;
      size = le;
      range = tt;
      dry = tt;
    }

tracked_still : (void void' : List Bool) (names : List ℕ) → ((m : ℕ) → get_or void' m false ≡ get_or void m false) → AreTracked void names → AreTracked void' names
tracked_still void void' names vs t m e = t m (sym (vs m) ∙ e)

-- the same of all that a table keeps
pub still_keeps : (bodies bodies' : Bodies) (on on' : Macros) (void void' : List Bool) (names : List ℕ) (n : ℕ) → Remembers bodies on void → AreTracked void names → get_or void n false ≡ false
    → ((m : ℕ) → (m ≡ n → ⊥) → get_or bodies' m [] ≡ get_or bodies m []) → ((m : ℕ) → (m ≡ n → ⊥) → get_or on m false ≡ true → get_or on' m false ≡ true)
    → ((m : ℕ) → get_or void' m false ≡ get_or void m false) → length on' ≤ length void' → Keeps bodies' on' void' names
still_keeps bodies bodies' on on' void void' names n h t down bs os vs le = record {
  remembers = still_remembers bodies bodies' on on' void void' n h down bs os vs le;
  tracked = tracked_still void void' names vs t;
}

-- a slice that is written back as a whole
pub written_back : {A : Type 0} (new more : List A) (n : ℕ) → n ≡ length new → take n (new ++ more) ≡ new
written_back new more n e = ap (λ k. take k (new ++ more)) e ∙ take-append_seam new more

-- ---- lists where one element is put

pub put_elsewhere : {A : Type 0} (xs : List A) (n m : ℕ) (x d : A) → (m ≡ n → ⊥) → get_or (put xs n x d) m d ≡ get_or xs m d
put_elsewhere [] zero zero x d ne = absurd (ne refl)
put_elsewhere [] zero (suc m) x d ne = refl
put_elsewhere [] (suc n) zero x d ne = refl
put_elsewhere [] (suc n) (suc m) x d ne = put_elsewhere [] n m x d (λ e. ne (ap suc e))
put_elsewhere (y ∷ ys) zero zero x d ne = absurd (ne refl)
put_elsewhere (y ∷ ys) zero (suc m) x d ne = refl
put_elsewhere (y ∷ ys) (suc n) zero x d ne = refl
put_elsewhere (y ∷ ys) (suc n) (suc m) x d ne = put_elsewhere ys n m x d (λ e. ne (ap suc e))

pub set_elsewhere : (on : Macros) (n m : ℕ) (b : Bool) → (m ≡ n → ⊥) → get_or (set on n b) m false ≡ get_or on m false
set_elsewhere on n m b ne = get_or-set_other on n m b false ne

pub unmade_keeps : (bodies : Bodies) (on on' : Macros) (void void' : List Bool) (names : List ℕ) (n : ℕ) → Remembers bodies on void → AreTracked void names → get_or void n false ≡ false
    → on' ≡ set on n false → void' ≡ void → Keeps bodies on' void' names
unmade_keeps bodies on on' void void' names n h t down oe ve =
    let a = ap length oe in let b = ap length ve in let s = h.size in let k = length-set on n false in
    still_keeps bodies bodies on on' void void' names n h t down (λ m ne. refl) (λ m ne e. ap (λ l. get_or l m false) oe ∙ set_elsewhere on n m false ne ∙ e) (λ m. ap (λ l. get_or l m false) ve) (omega arith)
