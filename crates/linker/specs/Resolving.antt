-- What stands while relocations are resolved.
use Rattle.std.specs.Prelude.{ℕ, ◌≡◌, ◌<◌, ◌≤◌, ◌+◌, ◌⊎◌, List, length, slice_index, slice_get, Some}
use Rattle.rv_assemble.specs.declared.object.ObjUnit.{ObjUnit}
use Rattle.rv_assemble.specs.declared.object.Relocation.{Relocation}
use Rattle.linker.specs.declared.names.Definition.{Definition}
use Rattle.linker.specs.declared.offsets.Start.{Start}
use Rattle.linker.specs.Layout.{laid, offset_of}
use Rattle.linker.specs.Starts.{AreStarts}
use Rattle.linker.specs.Names.{Entry, definition_at}
use Rattle.linker.specs.Patched.{IsSameOutside}
use Rattle.linker.specs.Linked.{Defines, NameLies, HasTarget, IsResolved, IsInside}

-- the table tells where units define names
abbrev pub TellsDefinitions : List ObjUnit → List Entry → Type 0
TellsDefinitions units table = (name : List ℕ) (d : Definition) → definition_at name table ≡ Some d → (v : ObjUnit) × Defines units name d.unit v d.place

pub record IsReady (units : List ObjUnit) (starts : List Start) (table : List Entry) : Type 0 where
  pub small : length (laid units) < 2000000000
  pub begin : AreStarts units starts
  pub defines : TellsDefinitions units table

abbrev pub HasDefinition : List Entry → List ℕ → Type 0
HasDefinition table name = (d : Definition) × (definition_at name table ≡ Some d)

-- so many bytes behind a name are still bytes of the unit that defines it, or its end
abbrev pub StaysWithin : (units : List ObjUnit) (name : List ℕ) (more : ℕ) → Type 0
StaysWithin units name more = (k place : ℕ) (v : ObjUnit) → Defines units name k v place → place + more ≤ length v.code + length v.image

pub record CanResolve (units : List ObjUnit) (table : List Entry) (k : ℕ) (r : Relocation) : Type 0 where
  pub unit : ObjUnit
  pub stands : slice_get units k ≡ Some unit
  pub inside : IsInside unit r.at r.kind
  pub defined : HasDefinition table r.name
  pub within : StaysWithin units r.name r.offset

-- the one relocation was resolved
pub record IsPatched (units : List ObjUnit) (old new : List ℕ) (k : ℕ) (u : ObjUnit) (r : Relocation) : Type 0 where
  pub target : ℕ
  pub lies : NameLies units r.name r.offset target
  pub has : HasTarget old new (offset_of units k u r.at) target r.kind
  pub same : IsSameOutside old new (offset_of units k u r.at) 8

abbrev pub AreAnswered : List ObjUnit → List Entry → Type 0
AreAnswered units table = (k j : ℕ) (u : ObjUnit) (r : Relocation) → slice_get units k ≡ Some u → slice_get u.relocations j ≡ Some r → HasDefinition table r.name

-- the j-th relocation of the k-th unit comes before that of the other numbers
abbrev pub IsBefore : (k j unit relocation : ℕ) → Type 0
IsBefore k j unit relocation = (k < unit) ⊎ ((k ≡ unit) × (j < relocation))

-- the relocations that come before are resolved, and all other bytes are as assembled
pub record IsDone (units : List ObjUnit) (bytes : List ℕ) (unit relocation : ℕ) : Type 0 where
  pub len : length bytes ≡ length (laid units)
  pub resolved : (k j : ℕ) (u : ObjUnit) (r : Relocation) → slice_get units k ≡ Some u → slice_get u.relocations j ≡ Some r
      → IsBefore k j unit relocation → IsResolved units bytes k u r
  pub others : (i : ℕ)
      → ((k j : ℕ) (u : ObjUnit) (r : Relocation) → slice_get units k ≡ Some u → slice_get u.relocations j ≡ Some r
      → IsBefore k j unit relocation → (i < offset_of units k u r.at) ⊎ (offset_of units k u r.at + 8 ≤ i))
      → slice_index bytes i ≡ slice_index (laid units) i
