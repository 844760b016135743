-- A name that no unit defines twice has one definition.
use Rattle.std.proofs.Common.{◌≡◌, ℕ, zero, suc, ◌+◌, ◌<◌, ◌≤◌, ◌⊎◌, inl, inr, List, [], ◌∷◌, ◌++◌, refl, sym, ap, ◌∙◌, subst, arith}
use Rattle.std.specs.Prelude.{slice_get, Some, bytes_eq, true, Bool, if◌then◌else◌}
use Rattle.std.proofs.lemmas.Slice.Eq.{bytes_eq-Decides}
use Rattle.rv_assemble.specs.declared.object.ObjUnit.{ObjUnit}
use Rattle.linker.specs.Names.{Entry, count_of, unit_entries, entries_from}
use Rattle.linker.specs.Linked.{Defines, IsFaulty}

bytes_eq-same : (a : List ℕ) → bytes_eq a a ≡ true
bytes_eq-same a = (bytes_eq-Decides a a).1 refl

pub count-append : (name : List ℕ) (xs ys : List Entry) → count_of name (xs ++ ys) ≡ count_of name xs + count_of name ys
count-append name [] ys = omega arith
count-append name (x ∷ xs) ys = let r = count-append name xs ys in omega (arith, r)

count-unit : (k : ℕ) (names : List (List ℕ × ℕ)) (j place : ℕ) (name : List ℕ) → slice_get names j ≡ Some (name, place) → 1 ≤ count_of name (unit_entries k names)
count-unit k [] j place name g = cc
count-unit k (n ∷ names) zero place name g =
    let e : n ≡ (name, place) = cc in
    let t : bytes_eq name n.0 ≡ true = ap (λ (x : List ℕ × ℕ). bytes_eq name x.0) e ∙ bytes_eq-same name in
    let P : Bool → Type 0 = λ b. 1 ≤ (if b then 1 else 0) + count_of name (unit_entries k names) in
    subst P (sym t) (omega arith)
count-unit k (n ∷ names) (suc j) place name g = let r = count-unit k names j place name g in omega (arith, r)

pub count-from : (k : ℕ) (os : List ObjUnit) (name : List ℕ) (i place : ℕ) (o : ObjUnit) → Defines os name i o place → 1 ≤ count_of name (entries_from k os)
count-from k [] name i place o d = let g = d.0 in cc
count-from k (u ∷ os) name zero place o d =
    let g = d.0 in
    let e : u ≡ o = cc in
    let one = count-unit k u.names d.1.0 place name (subst (λ (w : ObjUnit). slice_get w.names d.1.0 ≡ Some (name, place)) (sym e) d.1.1) in
    let a = count-append name (unit_entries k u.names) (entries_from (k + 1) os) in
    omega (arith, one, a)
count-from k (u ∷ os) name (suc i) place o d =
    let r = count-from (k + 1) os name i place o d in
    let a = count-append name (unit_entries k u.names) (entries_from (k + 1) os) in
    omega (arith, r, a)

count-two : (k : ℕ) (os : List ObjUnit) (name : List ℕ) (i j place to : ℕ) (o v : ObjUnit) → i < j → Defines os name i o place → Defines os name j v to → 2 ≤ count_of name (entries_from k os)
count-two k [] name i j place to o v lt d e = let g = d.0 in cc
count-two k (u ∷ os) name i zero place to o v lt d e = absurd (omega arith)
count-two k (u ∷ os) name zero (suc j) place to o v lt d e =
    let g = d.0 in
    let s : u ≡ o = cc in
    let one = count-unit k u.names d.1.0 place name (subst (λ (w : ObjUnit). slice_get w.names d.1.0 ≡ Some (name, place)) (sym s) d.1.1) in
    let r = count-from (k + 1) os name j to v e in
    let a = count-append name (unit_entries k u.names) (entries_from (k + 1) os) in
    omega (arith, one, r, a)
count-two k (u ∷ os) name (suc i) (suc j) place to o v lt d e =
    let r = count-two (k + 1) os name i j place to o v (omega arith) d e in
    let a = count-append name (unit_entries k u.names) (entries_from (k + 1) os) in
    omega (arith, r, a)

order : (x y : ℕ) → (x < y) ⊎ ((x ≡ y) ⊎ (y < x))
order x y = grind arith

pub one_definition : (os : List ObjUnit) (name : List ℕ) (i j place to : ℕ) (o v : ObjUnit) → (IsFaulty os name → ⊥) → Defines os name i o place → Defines os name j v to → i ≡ j
one_definition os name i j place to o v sound d e = elim (order i j) [
  | inl lt ↦ absurd (sound (inr (count-two 0 os name i j place to o v lt d e)))
  | inr h ↦ elim h [
    | inl is ↦ is
    | inr lt ↦ absurd (sound (inr (count-two 0 os name j i to place v o lt e d)))
  ]
]
