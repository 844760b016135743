-- Units that were assembled one by one, and the image that they were linked to.
use Rattle.std.specs.Prelude.{ℕ, ◌≡◌, ◌<◌, ◌≤◌, ◌+◌, ◌⊎◌, List, length, take, slice_index, slice_get, Some}
use Rattle.program_image.specs.declared.Image.{Image}
use Rattle.rv_assemble.specs.declared.unit.AsmUnit.{AsmUnit}
use Rattle.rv_assemble.specs.declared.unit.AsmLine.TheVariants.{Call, Address}
use Rattle.rv_assemble.specs.declared.unit.NamedFix.{NamedFix}
use Rattle.rv_assemble.specs.declared.object.ObjUnit.{ObjUnit}
use Rattle.rv_assemble.specs.Lines.{IsAssembled, IsProperUnit}
use Rattle.linker.specs.Layout.{codes, offset_of}
use Rattle.linker.specs.Names.{entry_name}
use Rattle.linker.specs.Linked.{base, IsLinked, IsFaulty, AreLinkable}

-- each unit can be assembled
abbrev pub AreProper : List AsmUnit → Type 0
AreProper us = (i : ℕ) (u : AsmUnit) → slice_get us i ≡ Some u → IsProperUnit u

-- each object is that of the proper unit with its number
pub record AreAssembled (us : List AsmUnit) (os : List ObjUnit) : Type 0 where
  pub count : length os ≡ length us
  pub proper : AreProper us
  pub each : (i : ℕ) (u : AsmUnit) (o : ObjUnit) → slice_get us i ≡ Some u → slice_get os i ≡ Some o → IsAssembled u o

-- a unit asks for the address of the name plus the offset, in its code or in its image
abbrev pub AsksInCode : AsmUnit → (name : List ℕ) (offset : ℕ) → Type 0
AsksInCode u name offset = (k : ℕ) × ((rd : ℕ) × (slice_get u.lines k ≡ Some (Address rd name offset)))

abbrev pub AsksInImage : AsmUnit → (name : List ℕ) (offset : ℕ) → Type 0
AsksInImage u name offset = (k : ℕ) × ((fix : NamedFix) × (slice_get u.fixes k ≡ Some fix) × (fix.name ≡ name) × (fix.offset ≡ offset))

abbrev pub AsksFor : AsmUnit → (name : List ℕ) (offset : ℕ) → Type 0
AsksFor u name offset = AsksInCode u name offset ⊎ AsksInImage u name offset

-- a unit calls the name or asks for an address of it
abbrev pub Names : AsmUnit → (name : List ℕ) → Type 0
Names u name = ((k : ℕ) × (slice_get u.lines k ≡ Some (Call name))) ⊎ ((offset : ℕ) × AsksFor u name offset)

-- one of the units has the name
abbrev pub IsNameOf : List AsmUnit → (name : List ℕ) → Type 0
IsNameOf us name = (i : ℕ) × ((u : AsmUnit) × (slice_get us i ≡ Some u) × (u.name ≡ name))

-- each unit has a name of its own, and each name that is asked for is one of theirs, `main` among them
pub record AreClosed (us : List AsmUnit) : Type 0 where
  pub own : (i j : ℕ) (u v : AsmUnit) → slice_get us i ≡ Some u → slice_get us j ≡ Some v → u.name ≡ v.name → i ≡ j
  pub named : (i : ℕ) (u : AsmUnit) (name : List ℕ) → slice_get us i ≡ Some u → Names u name → IsNameOf us name
  pub main : IsNameOf us entry_name

-- no unit asks for an address behind the end of the unit that the name is of
abbrev pub StayWithin : List AsmUnit → List ObjUnit → Type 0
StayWithin us os = (i j : ℕ) (u v : AsmUnit) (o : ObjUnit) (offset : ℕ) → slice_get us i ≡ Some u → slice_get us j ≡ Some v → slice_get os j ≡ Some o
    → AsksFor u v.name offset → offset ≤ length o.code + length o.image

-- units, their objects, and the image that `link` made of them
pub record AreLinked (us : List AsmUnit) (os : List ObjUnit) (image : Image) : Type 0 where
  pub assembled : AreAssembled us os
  pub linkable : AreLinkable os
  pub linked : IsLinked os image
  pub sound : (name : List ℕ) → IsFaulty os name → ⊥
  pub small : length image.bytes < 2000000000

-- the image is that of the units
abbrev pub IsImageOf : List AsmUnit → Image → Type 0
IsImageOf us image = (os : List ObjUnit) × AreLinked us os image

-- the i-th unit with its object
pub record UnitAt (us : List AsmUnit) (os : List ObjUnit) (i : ℕ) : Type 0 where
  pub unit : AsmUnit
  pub object : ObjUnit
  pub is_unit : slice_get us i ≡ Some unit
  pub is_object : slice_get os i ≡ Some object
  pub assembled : IsAssembled unit object

-- the address of its k-th line
abbrev pub line_address : {us : List AsmUnit} {os : List ObjUnit} {i : ℕ} → UnitAt us os i → ℕ → ℕ
line_address {os = os} {i = i} w k = base + (length (codes (take i os)) + slice_index w.assembled.places k)

-- the address of its name plus so many bytes, which count over its code and then its image
abbrev pub name_address : {us : List AsmUnit} {os : List ObjUnit} {i : ℕ} → UnitAt us os i → ℕ → ℕ
name_address {os = os} {i = i} w more = base + offset_of os i w.object more
