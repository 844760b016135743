-- Flags whose names are kept in a list.
use Rattle.std.proofs.Common.{◌≡◌, ℕ, zero, suc, ◌≤◌, Bool, true, false, cond, eqb, List, [], ◌∷◌, ◌++◌, length, get_or, refl, sym, ap, ◌∙◌, get_or-set_other}
use Rattle.std.proofs.Math.ListN.{set}
use Rattle.std.proofs.lemmas.Bool.{eqb-true, eq-eqb}
use Rattle.c_macros.specs.Expansion.{Bodies, Macros}
use Rattle.c_macros.specs.Void.{member}
use Rattle.c_macros.specs.Remembering.{Remembers}
use Rattle.c_macros.specs.Keeping.{AreTracked, AreDown, Keeps}

pub down_remembers : (bodies : Bodies) (on : Macros) (void : List Bool) → AreDown void → length on ≤ length void → Remembers bodies on void
down_remembers bodies on void a le = record { names = []; are_void = tt; are_on = tt; flags = a; size = le; range = tt; dry = tt }

pub down_keeps : (bodies : Bodies) (on : Macros) (void : List Bool) (names : List ℕ) → AreDown void → length on ≤ length void → Keeps bodies on void names
down_keeps bodies on void names a le = record { remembers = down_remembers bodies on void a le; tracked = λ m e. absurd (let d = a m in cc) }

member_last : (m n : ℕ) (names : List ℕ) → member m (names ++ n ∷ []) ≡ cond (member m names) true (eqb m n)
member_last m n [] = pick (eqb m n)
  where
    pick : (b : Bool) → cond b true false ≡ b
    pick true = refl
    pick false = refl
member_last m n (k ∷ ks) = pick (eqb m k) (member_last m n ks)
  where
    pick : (b : Bool) → member m (ks ++ n ∷ []) ≡ cond (member m ks) true (eqb m n) → cond b true (member m (ks ++ n ∷ [])) ≡ cond (cond b true (member m ks)) true (eqb m n)
    pick true e = refl
    pick false e = e

-- a name is taken off the list, and its flag is taken down
pub one_fewer : (void void' : List Bool) (names names' : List ℕ) (n : ℕ) → names ≡ names' ++ n ∷ [] → void' ≡ set void n false → AreTracked void names → AreTracked void' names'
one_fewer void void' names names' n ne ve t m e = pick (eqb m n) refl (member m names') refl
  where
    up : get_or (set void n false) m false ≡ true
    up = ap (λ v. get_or v m false) (sym ve) ∙ e

    set_down : (v : List Bool) (k : ℕ) → get_or (set v k false) k false ≡ false
    set_down [] k = refl
    set_down (b ∷ bs) zero = refl
    set_down (b ∷ bs) (suc k) = set_down bs k

    pick : (b : Bool) → eqb m n ≡ b → (c : Bool) → member m names' ≡ c → member m names' ≡ true
    pick b be true ce = ce
    pick true be false ce = let d = set_down void n in let same = ap (λ k. get_or (set void n false) k false) (eqb-true m n be) in cc
    pick false be false ce =
        let other = get_or-set_other void n m false false (λ same. let t : eqb m n ≡ true = eq-eqb m n same in cc) in
        let all = t m (sym other ∙ up) in
        let last = ap (member m) ne ∙ member_last m n names' ∙ ap (λ c. cond c true (eqb m n)) ce ∙ be in cc

-- a name is put on the list, and its flag is put up
pub one_more : (void void' : List Bool) (names names' : List ℕ) (n : ℕ) → names' ≡ names ++ n ∷ [] → void' ≡ set void n true → AreTracked void names → AreTracked void' names'
one_more void void' names names' n ne ve t m e = ap (member m) ne ∙ member_last m n names ∙ pick (eqb m n) refl
  where
    pick : (b : Bool) → eqb m n ≡ b → cond (member m names) true b ≡ true
    pick true be = both (member m names)
      where
        both : (c : Bool) → cond c true true ≡ true
        both true = refl
        both false = refl
    pick false be =
        let other = get_or-set_other void n m true false (λ same. let t : eqb m n ≡ true = eq-eqb m n same in cc) in
        ap (λ c. cond c true false) (t m (sym other ∙ ap (λ v. get_or v m false) (sym ve) ∙ e))

pub longer_list : (void : List Bool) (names names' : List ℕ) (n : ℕ) → names' ≡ names ++ n ∷ [] → AreTracked void names → AreTracked void names'
longer_list void names names' n ne t m e = ap (member m) ne ∙ member_last m n names ∙ ap (λ c. cond c true (eqb m n)) (t m e)

pub none_tracked : (void : List Bool) (names : List ℕ) → names ≡ [] → AreTracked void names → AreDown void
none_tracked void names ne t m = pick (get_or void m false) refl
  where
    pick : (b : Bool) → get_or void m false ≡ b → get_or void m false ≡ false
    pick false e = e
    pick true e = absurd (let y = t m e in let no = ap (member m) ne in cc)

-- a flag more, which is down
pub one_down : (flags : List Bool) (m : ℕ) → get_or (flags ++ false ∷ []) m false ≡ get_or flags m false
one_down [] zero = refl
one_down [] (suc m) = refl
one_down (b ∷ bs) zero = refl
one_down (b ∷ bs) (suc m) = one_down bs m
