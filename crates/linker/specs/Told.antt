-- What is told where units can't be linked.
use Rattle.std.specs.Prelude.{ℕ, ◌≡◌, List, [], Option, Some, None}
use Rattle.rv_assemble.specs.declared.object.ObjUnit.{ObjUnit}
use Rattle.linker.specs.declared.fault.LinkFault.{LinkFault}
use Rattle.linker.specs.declared.fault.LinkFault.TheVariants.{Memory, Missing, Twice}
use Rattle.linker.specs.Names.{IsMissing, IsTwice}
use Rattle.linker.specs.First.{IsFirst, IsNoneBefore}
use Rattle.linker.specs.Linked.{IsFirstFault}

-- the fault of units: of the first name, in the order of bytes, that has no definition or two
abbrev pub IsFault : List ObjUnit → LinkFault → Type 0
IsFault units Memory = Unit {0}
IsFault units (Missing name) = IsMissing units name × IsFirstFault units name
IsFault units (Twice name) = IsTwice units name × IsFirstFault units name

-- the fault that two lists of names tell, and none where they have no name
abbrev pub Tells : (missing twice : List (List ℕ)) → Option LinkFault → Type 0
Tells missing twice None = (missing ≡ []) × (twice ≡ [])
Tells missing twice (Some Memory) = ⊥
Tells missing twice (Some (Missing name)) = IsFirst missing name × IsNoneBefore twice name
Tells missing twice (Some (Twice name)) = IsFirst twice name × IsNoneBefore missing name
