-- Names that are found.
use Rattle.std.proofs.Common.{◌≡◌, ℕ, zero, suc, ◌+◌, List, [], ◌∷◌, ◌++◌, length, refl, sym, ap, ◌∙◌, subst, arith}
use Rattle.std.specs.Prelude.{bytes_eq, slice_get, Option, Some, None, if◌then◌else◌, Bool, true, false}
use Rattle.rv_assemble.specs.declared.object.ObjUnit.{ObjUnit}
use Rattle.rv_assemble.specs.declared.object.Relocation.{Relocation}
use Rattle.linker.specs.declared.names.Definition.{Definition}
use Rattle.linker.specs.Names.{Entry, definition_at, count_of, unit_entries, entries_from, asked_names, asked_of_units, all_asked, entry_name, Holds, IsMissing}
use Rattle.linker.specs.Table.{IsTable, AreMissed}
use Rattle.linker.specs.Resolving.{TellsDefinitions, HasDefinition, AreAnswered}
use Rattle.linker.proofs.Tabled.{none-count, some-count, or_else, bytes_eq-true, definition, get-last}

-- among entries behind others
either_of : (b : Bool) (d : Definition) (x y o : Option Definition) → x ≡ or_else y o → (if b then Some d else x) ≡ or_else (if b then Some d else y) o
either_of true d x y o e = refl
either_of false d x y o e = e

definition-append : (name : List ℕ) (xs ys : List Entry) → definition_at name (xs ++ ys) ≡ or_else (definition_at name xs) (definition_at name ys)
definition-append name [] ys = refl
definition-append name (x ∷ xs) ys = either_of (bytes_eq name x.0) x.1 (definition_at name (xs ++ ys)) (definition_at name xs) (definition_at name ys) (definition-append name xs ys)

-- the k-th unit, of these names, defines the name so
record UnitFound (k : ℕ) (name : List ℕ) (names : List (List ℕ × ℕ)) (d : Definition) : Type 0 where
  number : d.unit ≡ k
  index : ℕ
  is : slice_get names index ≡ Some (name, d.place)

same_definition : (a b : Definition) → Some a ≡ Some b → a ≡ b
same_definition a b e = cc

unit-found-by : (k : ℕ) (name : List ℕ) (n : List ℕ × ℕ) (names : List (List ℕ × ℕ)) (d : Definition) (b : Bool) → bytes_eq name n.0 ≡ b
    → (if b then Some (definition k n.1) else definition_at name (unit_entries k names)) ≡ Some d
    → (definition_at name (unit_entries k names) ≡ Some d → UnitFound k name names d) → UnitFound k name (n ∷ names) d
unit-found-by k name n names d true t h more =
    let same : definition k n.1 ≡ d = same_definition (definition k n.1) d h in
    let name_is : name ≡ n.0 = bytes_eq-true name n.0 t in
    let place_is : n.1 ≡ d.place = ap (λ (e : Definition). e.place) same in
    record {
      number = sym (ap (λ (e : Definition). e.unit) same);
      index = 0;
      is = ap (λ (m : List ℕ). let o : Option (List ℕ × ℕ) = Some (m, n.1) in o) (sym name_is) ∙ ap (λ (p : ℕ). let o : Option (List ℕ × ℕ) = Some (name, p) in o) place_is;
    }
unit-found-by k name n names d false t h more =
    let f = more h in
    record { number = f.number; index = suc f.index; is = f.is }

unit-found : (k : ℕ) (name : List ℕ) (names : List (List ℕ × ℕ)) (d : Definition) → definition_at name (unit_entries k names) ≡ Some d → UnitFound k name names d
unit-found k name [] d h = cc
unit-found k name (n ∷ names) d h = unit-found-by k name n names d (bytes_eq name n.0) refl h (λ e. unit-found k name names d e)

record UnitsFound (k : ℕ) (name : List ℕ) (units : List ObjUnit) (d : Definition) : Type 0 where
  index : ℕ
  number : d.unit ≡ k + index
  unit : ObjUnit
  stands : slice_get units index ≡ Some unit
  place : ℕ
  is : slice_get unit.names place ≡ Some (name, d.place)

units-found-by : (k : ℕ) (name : List ℕ) (u : ObjUnit) (units : List ObjUnit) (d : Definition) (o : Option Definition) → definition_at name (unit_entries k u.names) ≡ o
    → or_else o (definition_at name (entries_from (k + 1) units)) ≡ Some d
    → (definition_at name (entries_from (k + 1) units) ≡ Some d → UnitsFound (k + 1) name units d) → UnitsFound k name (u ∷ units) d
units-found-by k name u units d None e h more =
    let f = more h in
    let n = f.number in
    record { index = suc f.index; number = omega (arith, n); unit = f.unit; stands = f.stands; place = f.place; is = f.is }
units-found-by k name u units d (Some c) e h more =
    let f = unit-found k name u.names d (e ∙ h) in
    let n = f.number in
    record { index = 0; number = omega (arith, n); unit = u; stands = refl; place = f.index; is = f.is }

units-found : (k : ℕ) (name : List ℕ) (units : List ObjUnit) (d : Definition) → definition_at name (entries_from k units) ≡ Some d → UnitsFound k name units d
units-found k name [] d h = cc
units-found k name (u ∷ units) d h =
    units-found-by k name u units d (definition_at name (unit_entries k u.names)) refl
    (sym (definition-append name (unit_entries k u.names) (entries_from (k + 1) units)) ∙ h) (λ e. units-found (k + 1) name units d e)

pub table-defines : (units : List ObjUnit) (table : List Entry) (twice : List (List ℕ)) → IsTable (entries_from 0 units) table twice → TellsDefinitions units table
table-defines units table twice t name d h =
    let f = units-found 0 name units d (sym (t.first name) ∙ h) in
    let n = f.number in
    let number : f.index ≡ d.unit = omega (arith, n) in
    (f.unit, (subst (λ (i : ℕ). slice_get units i ≡ Some f.unit) number f.stands, (f.place, f.is)))

-- names that are asked for
left : (xs ys : List (List ℕ)) (k : ℕ) (n : List ℕ) → slice_get xs k ≡ Some n → slice_get (xs ++ ys) k ≡ Some n
left [] ys k n g = cc
left (x ∷ xs) ys zero n g = g
left (x ∷ xs) ys (suc k) n g = left xs ys k n g

right : (xs ys : List (List ℕ)) (n : List ℕ) → Holds ys n → Holds (xs ++ ys) n
right [] ys n h = h
right (x ∷ xs) ys n h = let r = right xs ys n h in (suc r.0, r.1)

asked : (rs : List Relocation) (j : ℕ) (r : Relocation) → slice_get rs j ≡ Some r → slice_get (asked_names rs) j ≡ Some r.name
asked [] j r g = cc
asked (q ∷ rs) zero r g = let e : q ≡ r = cc in ap (λ (x : Relocation). Some x.name) e
asked (q ∷ rs) (suc j) r g = asked rs j r g

asked-of : (units : List ObjUnit) (k j : ℕ) (u : ObjUnit) (r : Relocation) → slice_get units k ≡ Some u → slice_get u.relocations j ≡ Some r → Holds (asked_of_units units) r.name
asked-of [] k j u r g h = cc
asked-of (v ∷ units) zero j u r g h =
    let e : v ≡ u = cc in
    (j, left (asked_names v.relocations) (asked_of_units units) j r.name (asked v.relocations j r (subst (λ (w : ObjUnit). slice_get w.relocations j ≡ Some r) (sym e) h)))
asked-of (v ∷ units) (suc k) j u r g h = right (asked_names v.relocations) (asked_of_units units) r.name (asked-of units k j u r g h)

defined-by : (table : List Entry) (name : List ℕ) (o : Option Definition) → definition_at name table ≡ o → (definition_at name table ≡ None → ⊥) → HasDefinition table name
defined-by table name None e not = absurd (not e)
defined-by table name (Some d) e not = (d, e)

-- where no name is missing
module _ (units : List ObjUnit) (table : List Entry) (missing : List (List ℕ)) (m : AreMissed (all_asked units) table missing) (none : missing ≡ []) where
  holds_none : (name : List ℕ) → Holds missing name → ⊥
  holds_none name h = let e : slice_get [] h.0 ≡ Some name = subst (λ (ns : List (List ℕ)). slice_get ns h.0 ≡ Some name) none h.1 in cc

  pub all-defined : (name : List ℕ) → Holds (all_asked units) name → HasDefinition table name
  all-defined name h = defined-by table name (definition_at name table) refl (λ e. holds_none name (m.full name h e))

  pub all-answered : AreAnswered units table
  all-answered k j u r g h =
      let a = asked-of units k j u r g h in
      all-defined r.name (a.0, left (asked_of_units units) (entry_name ∷ []) a.0 r.name a.1)

  pub entry-defined : HasDefinition table entry_name
  entry-defined = all-defined entry_name (length (asked_of_units units), get-last (asked_of_units units) entry_name)

-- the lists of faulty names
module _ (units : List ObjUnit) (table : List Entry) (twice missing : List (List ℕ)) (t : IsTable (entries_from 0 units) table twice) (m : AreMissed (all_asked units) table missing) where
  pub missing-sound : (name : List ℕ) → Holds missing name → IsMissing units name
  missing-sound name h = let s = m.sound name h in (s.0, none-count name (entries_from 0 units) (sym (t.first name) ∙ s.1))

  none-by : (name : List ℕ) (o : Option Definition) → definition_at name (entries_from 0 units) ≡ o → count_of name (entries_from 0 units) ≡ 0 → definition_at name (entries_from 0 units) ≡ None
  none-by name None e c = e
  none-by name (Some d) e c = let one = some-count name (entries_from 0 units) d e in absurd (omega (arith, one, c))

  pub missing-full : (name : List ℕ) → IsMissing units name → Holds missing name
  missing-full name h = m.full name h.0 (t.first name ∙ none-by name (definition_at name (entries_from 0 units)) refl h.1)
