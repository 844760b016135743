-- The units of the tests can be linked.
use Rattle.std.proofs.Common.{◌≡◌, ℕ, zero, suc, ◌+◌, ◌≤◌, ◌⊎◌, inl, inr, List, [], ◌∷◌, length, refl, sym, ap, ◌∙◌, subst, arith}
use Rattle.std.specs.Prelude.{slice_get, Option, Some, None}
use Rattle.rv_assemble.specs.declared.object.ObjUnit.{ObjUnit}
use Rattle.rv_assemble.specs.declared.object.Relocation.{Relocation}
use Rattle.rv_assemble.specs.declared.object.RelocationKind.TheVariants.{Pair, Word}
use Rattle.linker.specs.Linked.{IsInside, AreLinkable}
use Rattle.linker.specs.Trial.{IsTrial, asked_of}

-- which of the two it is
one_of : (callee : List ℕ) (j : ℕ) (r : Relocation) → slice_get (asked_of callee) j ≡ Some r
    → ((j ≡ 0) × (record { at = 0; name = callee; offset = 0; kind = Pair } ≡ r)) ⊎ ((j ≡ 1) × (record { at = 8; name = callee; offset = 0; kind = Word } ≡ r))
one_of callee zero r g = inl (refl, same (record { at = 0; name = callee; offset = 0; kind = Pair }) r g)
  where
    same : (a b : Relocation) → Some a ≡ Some b → a ≡ b
    same a b e = cc
one_of callee (suc zero) r g = inr (refl, same (record { at = 8; name = callee; offset = 0; kind = Word }) r g)
  where
    same : (a b : Relocation) → Some a ≡ Some b → a ≡ b
    same a b e = cc
one_of callee (suc (suc j)) r g = cc

abbrev place_told : Option (List ℕ × ℕ) → ℕ
place_told None = 0
place_told (Some n) = n.1

place_of : (name n : List ℕ) (j place : ℕ) → slice_get {X = List ℕ × ℕ} ((name, 0) ∷ []) j ≡ Some (n, place) → place ≡ 0
place_of name n zero place g = sym (ap place_told g)
place_of name n (suc j) place g = sym (ap place_told g)

place_is : (u : ObjUnit) → IsTrial u → (j place : ℕ) (name : List ℕ) → slice_get u.names j ≡ Some (name, place) → place ≡ 0
place_is u t j place name g = place_of t.name name j place (subst (λ (ns : List (List ℕ × ℕ)). slice_get ns j ≡ Some (name, place)) t.names g)

abbrev first : List ℕ → Relocation
first callee = record { at = 0; name = callee; offset = 0; kind = Pair }

abbrev second : List ℕ → Relocation
second callee = record { at = 8; name = callee; offset = 0; kind = Word }

abbrev Kinds : (callee : List ℕ) (j : ℕ) (r : Relocation) → Type 0
Kinds callee j r = ((j ≡ 0) × (first callee ≡ r)) ⊎ ((j ≡ 1) × (second callee ≡ r))

abbrev Inside : ObjUnit → Relocation → Type 0
Inside u r = IsInside u r.at r.kind

inside_of : (u : ObjUnit) (callee : List ℕ) (j : ℕ) (r : Relocation) → length u.code ≡ 8 → length u.image ≡ 8 → Kinds callee j r → Inside u r
inside_of u callee j r c i (inl (n, e)) = let h : Inside u (first callee) = omega (arith, c) in subst (Inside u) e h
inside_of u callee j r c i (inr (n, e)) = let h : Inside u (second callee) = (omega (arith, c), omega (arith, c, i)) in subst (Inside u) e h

offset_of : (callee : List ℕ) (j : ℕ) (r : Relocation) → Kinds callee j r → r.offset ≡ 0
offset_of callee j r (inl (n, e)) = sym (ap (λ (x : Relocation). x.offset) e)
offset_of callee j r (inr (n, e)) = sym (ap (λ (x : Relocation). x.offset) e)

abbrev Apart : Relocation → Relocation → Type 0
Apart q r = (q.at + 8 ≤ r.at) ⊎ (r.at + 8 ≤ q.at)

apart_of : (callee : List ℕ) (i j : ℕ) (q r : Relocation) → (i ≡ j → ⊥) → Kinds callee i q → Kinds callee j r → Apart q r
apart_of callee i j q r not (inl (m, e)) (inl (n, f)) = absurd (not (m ∙ sym n))
apart_of callee i j q r not (inl (m, e)) (inr (n, f)) = let a = ap (λ (x : Relocation). x.at) e in let b = ap (λ (x : Relocation). x.at) f in inl (omega (arith, a, b))
apart_of callee i j q r not (inr (m, e)) (inl (n, f)) = let a = ap (λ (x : Relocation). x.at) e in let b = ap (λ (x : Relocation). x.at) f in inr (omega (arith, a, b))
apart_of callee i j q r not (inr (m, e)) (inr (n, f)) = absurd (not (m ∙ sym n))

nothing : (rs : List Relocation) (j : ℕ) (r : Relocation) → rs ≡ [] → slice_get rs j ≡ Some r → ⊥
nothing rs j r e g = let h : slice_get [] j ≡ Some r = subst (λ (xs : List Relocation). slice_get xs j ≡ Some r) e g in cc

kinds : (u : ObjUnit) (callee : List ℕ) (j : ℕ) (r : Relocation) → u.relocations ≡ asked_of callee → slice_get u.relocations j ≡ Some r → Kinds callee j r
kinds u callee j r e g = one_of callee j r (subst (λ (xs : List Relocation). slice_get xs j ≡ Some r) e g)

pub trials-linkable : (units : List ObjUnit) → ((k : ℕ) (u : ObjUnit) → slice_get units k ≡ Some u → IsTrial u) → AreLinkable units
trials-linkable units t k u g = record {
  names = λ j place name h. let e = place_is u (t k u g) j place name h in omega (arith, e);
  inside = λ j r h. elim (t k u g).asks [
    | inl none ↦ absurd (nothing u.relocations j r none h)
    | inr a ↦ inside_of u a.0 j r a.2 a.3 (kinds u a.0 j r a.1 h)
  ];
  apart = λ i j q r h l not. elim (t k u g).asks [
    | inl none ↦ absurd (nothing u.relocations i q none h)
    | inr a ↦ apart_of a.0 i j q r not (kinds u a.0 i q a.1 h) (kinds u a.0 j r a.1 l)
  ];
  targets = λ j i place r v h d. elim (t k u g).asks [
    | inl none ↦ absurd (nothing u.relocations j r none h)
    | inr a ↦ (
        let e = place_is v (t i v d.0) d.1.0 place r.name d.1.1 in
        let o = offset_of a.0 j r (kinds u a.0 j r a.1 h) in
        omega (arith, e, o))
  ];
}

pub pair-linkable : (a b : ObjUnit) → IsTrial a → IsTrial b → AreLinkable (a ∷ b ∷ [])
pair-linkable a b s t = trials-linkable (a ∷ b ∷ []) each
  where
    each : (k : ℕ) (u : ObjUnit) → slice_get (a ∷ b ∷ []) k ≡ Some u → IsTrial u
    each zero u g = let e : a ≡ u = cc in subst IsTrial e s
    each (suc zero) u g = let e : b ≡ u = cc in subst IsTrial e t
    each (suc (suc k)) u g = cc

pub none-linkable : (units : List ObjUnit) → units ≡ [] → AreLinkable units
none-linkable units e k u g = let h : slice_get [] k ≡ Some u = subst (λ (xs : List ObjUnit). slice_get xs k ≡ Some u) e g in cc
