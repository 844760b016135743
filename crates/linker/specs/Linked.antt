-- What linking means: each name at its one definition, each relocation resolved, all other bytes as assembled.
use Rattle.std.specs.Prelude.{ℕ, ◌≡◌, ◌≢◌, ◌<◌, ◌≤◌, ◌+◌, ◌⊎◌, List, length, slice_index, slice_get, Some, false}
use Rattle.std.specs.Cmp.Lexicographic.{slice_cmp}
use Rattle.std.specs.Ordering.{nat_cmp, is_lt}
use Rattle.jf_base.specs.Numbers.{number_low_first}
use Rattle.program_image.specs.declared.Image.{Image}
use Rattle.rv_assemble.specs.declared.object.ObjUnit.{ObjUnit}
use Rattle.rv_assemble.specs.declared.object.Relocation.{Relocation}
use Rattle.rv_assemble.specs.declared.object.RelocationKind.{RelocationKind}
use Rattle.rv_assemble.specs.declared.object.RelocationKind.TheVariants.{Pair, Word}
use Rattle.rv_assemble.specs.Lines.{distance}
use Rattle.linker.specs.Layout.{code_size, laid, offset_of}
use Rattle.linker.specs.Patched.{HasDistance}
use Rattle.linker.specs.Names.{entry_name, IsMissing, IsTwice}

-- the address of an image's first byte
abbrev pub base : ℕ
base = 65536

-- the k-th unit defines the name at the place
abbrev pub Defines : (units : List ObjUnit) (name : List ℕ) (k : ℕ) (u : ObjUnit) (place : ℕ) → Type 0
Defines units name k u place = (slice_get units k ≡ Some u) × ((j : ℕ) × (slice_get u.names j ≡ Some (name, place)))

-- the offset of a name's definition with so many bytes more
pub record NameLies (units : List ObjUnit) (name : List ℕ) (more offset : ℕ) : Type 0 where
  pub index : ℕ
  pub unit : ObjUnit
  pub place : ℕ
  pub defines : Defines units name index unit place
  pub offset_is : offset ≡ offset_of units index unit (place + more)

-- the bytes from `at` on have the target, as the kind says
abbrev pub HasTarget : (old new : List ℕ) (at target : ℕ) → RelocationKind → Type 0
HasTarget old new at target Pair = HasDistance old new at (distance at target)
HasTarget old new at target Word = number_low_first at 8 new ≡ base + target

-- the k-th unit's relocation is resolved
pub record IsResolved (units : List ObjUnit) (bytes : List ℕ) (k : ℕ) (u : ObjUnit) (r : Relocation) : Type 0 where
  pub target : ℕ
  pub lies : NameLies units r.name r.offset target
  pub has : HasTarget (laid units) bytes (offset_of units k u r.at) target r.kind

-- no relocation lies over the byte
abbrev pub IsUntouched : (units : List ObjUnit) (i : ℕ) → Type 0
IsUntouched units i = (k j : ℕ) (u : ObjUnit) (r : Relocation) → slice_get units k ≡ Some u → slice_get u.relocations j ≡ Some r
    → (i < offset_of units k u r.at) ⊎ (offset_of units k u r.at + 8 ≤ i)

-- the image of the units
pub record IsLinked (units : List ObjUnit) (image : Image) : Type 0 where
  pub count : length image.bytes ≡ length (laid units)
  pub code_len : image.code_len ≡ code_size units
  pub entry : NameLies units entry_name 0 image.entry
  pub resolved : (k j : ℕ) (u : ObjUnit) (r : Relocation) → slice_get units k ≡ Some u → slice_get u.relocations j ≡ Some r → IsResolved units image.bytes k u r
  pub others : (i : ℕ) → i < length image.bytes → IsUntouched units i → slice_index image.bytes i ≡ slice_index (laid units) i

-- a name that can't be linked, and the first such in the order of bytes
abbrev pub IsFaulty : List ObjUnit → List ℕ → Type 0
IsFaulty units name = IsMissing units name ⊎ IsTwice units name

abbrev pub IsFirstFault : List ObjUnit → List ℕ → Type 0
IsFirstFault units name = IsFaulty units name × ((other : List ℕ) → IsFaulty units other → is_lt (slice_cmp nat_cmp other name) ≡ false)

-- where a relocation may stand: a pair in the code, a word in the image
abbrev pub IsInside : (u : ObjUnit) (at : ℕ) → RelocationKind → Type 0
IsInside u at Pair = at + 8 ≤ length u.code
IsInside u at Word = (length u.code ≤ at) × (at + 8 ≤ length u.code + length u.image)

-- a unit that can be linked with others
pub record IsLinkable (units : List ObjUnit) (u : ObjUnit) : Type 0 where
  pub names : (j place : ℕ) (name : List ℕ) → slice_get u.names j ≡ Some (name, place) → place ≤ length u.code + length u.image
  pub inside : (j : ℕ) (r : Relocation) → slice_get u.relocations j ≡ Some r → IsInside u r.at r.kind
  pub apart : (i j : ℕ) (q r : Relocation) → slice_get u.relocations i ≡ Some q → slice_get u.relocations j ≡ Some r → i ≢ j → (q.at + 8 ≤ r.at) ⊎ (r.at + 8 ≤ q.at)
  pub targets : (j k place : ℕ) (r : Relocation) (v : ObjUnit) → slice_get u.relocations j ≡ Some r → Defines units r.name k v place
      → place + r.offset ≤ length v.code + length v.image

abbrev pub AreLinkable : List ObjUnit → Type 0
AreLinkable units = (k : ℕ) (u : ObjUnit) → slice_get units k ≡ Some u → IsLinkable units u
