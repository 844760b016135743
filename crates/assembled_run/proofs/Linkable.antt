-- Assembled units can be linked.
use Rattle.std.proofs.Common.{◌≡◌, ℕ, zero, suc, ◌+◌, ◌<◌, ◌⊎◌, inl, inr, List, [], ◌∷◌, length, refl, sym, ap, subst, arith}
use Rattle.std.specs.Prelude.{slice_get, slice_index, Option, Some, None}
use Rattle.std.proofs.lemmas.Option.{slice_get_within}
use Rattle.rv_assemble.specs.declared.unit.AsmLine.{AsmLine}
use Rattle.rv_assemble.specs.declared.unit.AsmLine.TheVariants.{Label, Plain, Branch, Call, Address}
use Rattle.rv_assemble.specs.declared.unit.AsmUnit.{AsmUnit}
use Rattle.rv_assemble.specs.declared.object.ObjUnit.{ObjUnit}
use Rattle.rv_assemble.specs.declared.object.Relocation.{Relocation}
use Rattle.rv_assemble.specs.declared.object.RelocationKind.{RelocationKind}
use Rattle.rv_assemble.specs.declared.object.RelocationKind.TheVariants.{Word}
use Rattle.rv_assemble.specs.Lines.{IsAssembled, IsProperUnit, asked_by}
use Rattle.linker.specs.Linked.{IsInside, AreLinkable}
use Rattle.assembled_run.specs.Program.{AreAssembled, AsksFor, Names, StayWithin, UnitAt}
use Rattle.assembled_run.proofs.Asked.{Request, OfFix, origin, apart, request_within}

-- the object of a unit, and the unit of an object
found : {X : Type 0} (xs : List X) (k : ℕ) → k < length xs → (x : X) × (slice_get xs k ≡ Some x)
found [] k lt = absurd (omega arith)
found (x ∷ xs) zero lt = (x, refl)
found (x ∷ xs) (suc k) lt = found xs k (omega arith)

pub unit_at : (us : List AsmUnit) (os : List ObjUnit) → AreAssembled us os → (i : ℕ) → i < length us → UnitAt us os i
unit_at us os h i lt =
    let u = found us i lt in
    let c = h.count in
    let o = found os i (omega (arith, c, lt)) in
    record { unit = u.0; object = o.0; is_unit = u.1; is_object = o.1; assembled = h.each i u.0 o.0 u.1 o.1 }

-- the one name of an object
abbrev name_told : Option (List ℕ × ℕ) → List ℕ
name_told None = []
name_told (Some n) = n.0

abbrev place_told : Option (List ℕ × ℕ) → ℕ
place_told None = 0
place_told (Some n) = n.1

only : (name n : List ℕ) (j place : ℕ) → slice_get {X = List ℕ × ℕ} ((name, 0) ∷ []) j ≡ Some (n, place) → (n ≡ name) × (place ≡ 0)
only name n zero place g = (sym (ap name_told g), sym (ap place_told g))
only name n (suc j) place g = cc

pub named : (u : AsmUnit) (o : ObjUnit) → IsAssembled u o → (j place : ℕ) (name : List ℕ) → slice_get o.names j ≡ Some (name, place) → (name ≡ u.name) × (place ≡ 0)
named u o a j place name g = only u.name name j place (subst (λ (ns : List (List ℕ × ℕ)). slice_get ns j ≡ Some (name, place)) a.names g)

-- a request has no offset, or is one that the unit asks for
asks : (u : AsmUnit) (o : ObjUnit) (a : IsAssembled u o) (r : Relocation) → Request u o a.places r ⊎ OfFix u o r → (r.offset ≡ 0) ⊎ AsksFor u r.name r.offset
asks u o a r (inr f) =
    inr (inr (f.index, (f.fix, f.stands, ap (λ (x : Relocation). x.name) f.is, ap (λ (x : Relocation). x.offset) f.is)))
asks u o a r (inl q) = by q.of.line q.of.stands q.of.asks
  where
    is : (x : Relocation) → x ∷ [] ≡ r ∷ [] → x ≡ r
    is x e = cc

    by : (line : AsmLine) → slice_get u.lines q.of.index ≡ Some line → asked_by (slice_index a.places q.of.index) line ≡ r ∷ [] → (r.offset ≡ 0) ⊎ AsksFor u r.name r.offset
    by (Label label) g s = cc
    by (Plain insn) g s = cc
    by (Branch insn to) g s = cc
    by (Call name) g s = inl (sym (ap (λ (x : Relocation). x.offset) (is _ s)))
    by (Address rd name offset) g s =
        let n : name ≡ r.name = ap (λ (x : Relocation). x.name) (is _ s) in
        let m : offset ≡ r.offset = ap (λ (x : Relocation). x.offset) (is _ s) in
        inr (inl (q.of.index, (rd, subst (λ (y : ℕ). slice_get u.lines q.of.index ≡ Some (Address rd r.name y)) m (subst (λ (y : List ℕ). slice_get u.lines q.of.index ≡ Some (Address rd y offset)) n g))))

-- and its name is one that the unit calls or asks for
pub names_of : (u : AsmUnit) (o : ObjUnit) (a : IsAssembled u o) (r : Relocation) → Request u o a.places r ⊎ OfFix u o r → Names u r.name
names_of u o a r (inr f) = inr (r.offset, inr (f.index, (f.fix, f.stands, ap (λ (x : Relocation). x.name) f.is, ap (λ (x : Relocation). x.offset) f.is)))
names_of u o a r (inl q) = by q.of.line q.of.stands q.of.asks
  where
    is : (x : Relocation) → x ∷ [] ≡ r ∷ [] → x ≡ r
    is x e = cc

    by : (line : AsmLine) → slice_get u.lines q.of.index ≡ Some line → asked_by (slice_index a.places q.of.index) line ≡ r ∷ [] → Names u r.name
    by (Label label) g s = cc
    by (Plain insn) g s = cc
    by (Branch insn to) g s = cc
    by (Call name) g s = inl (q.of.index, subst (λ (y : List ℕ). slice_get u.lines q.of.index ≡ Some (Call y)) (ap (λ (x : Relocation). x.name) (is _ s)) g)
    by (Address rd name offset) g s =
        let n : name ≡ r.name = ap (λ (x : Relocation). x.name) (is _ s) in
        inr (offset, inl (q.of.index, (rd, subst (λ (y : List ℕ). slice_get u.lines q.of.index ≡ Some (Address rd y offset)) n g)))

inside : (u : AsmUnit) (o : ObjUnit) (a : IsAssembled u o) → IsProperUnit u → (r : Relocation) → Request u o a.places r ⊎ OfFix u o r → IsInside o r.at r.kind
inside u o a p r (inl q) = subst (λ (k : RelocationKind). IsInside o r.at k) (sym q.kind) (request_within u o a r q)
inside u o a p r (inr f) =
    let low = p.fixes f.index f.fix f.stands in
    let e = ap (λ (b : List ℕ). length b) a.image in
    let h : IsInside o (length o.code + f.fix.at) Word = (omega arith, omega (arith, low, e)) in
    subst (λ (x : Relocation). IsInside o x.at x.kind) f.is h

pub linkable : (us : List AsmUnit) (os : List ObjUnit) → AreAssembled us os → StayWithin us os → AreLinkable os
linkable us os h w k o g =
    let c = h.count in
    let lt = slice_get_within os k o g in
    let u = found us k (omega (arith, c, lt)) in
    let a = h.each k u.0 o u.1 g in
    let p = h.proper k u.0 u.1 in
    record {
      names = λ j place name n. (let e = (named u.0 o a j place name n).1 in omega (arith, e));
      inside = λ j r l. inside u.0 o a p r (origin u.0 o a j r l);
      apart = λ i j q r l m other. apart u.0 o a i j q r p l m other;
      targets = λ j i place r v l d. (
          let ci = slice_get_within os i v d.0 in
          let t = found us i (omega (arith, c, ci)) in
          let b = h.each i t.0 v t.1 d.0 in
          let n = named t.0 v b d.1.0 place r.name d.1.1 in
          let z = n.1 in
          elim (asks u.0 o a r (origin u.0 o a j r l)) [
            | inl none ↦ omega (arith, none, z)
            | inr some ↦ (
                let s = w k i u.0 t.0 v r.offset u.1 t.1 d.0 (subst (λ (y : List ℕ). AsksFor u.0 y r.offset) n.0 some) in
                omega (arith, s, z))
          ]);
    }
