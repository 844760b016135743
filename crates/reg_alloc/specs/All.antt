-- Assignments for all procedures of a program.
use Rattle.std.specs.Prelude.{◌≡◌, ℕ, List, length, Some, slice_get}
use Rattle.flatten.specs.declared.blocks.BlockProc.{BlockProc}
use Rattle.block_homes.specs.declared.homes.Assignment.{Assignment}
use Rattle.block_homes.specs.declared.homes.Verdict.TheVariants.{Yes}
use Rattle.block_homes.specs.Valid.{AreHomes, IsVerdict}
use Rattle.reg_alloc.specs.Live.{SlotsCrowded}

-- a home for each value, which keeps each use, and a slot only where its value is crowded
pub record IsAssigned (q : BlockProc) (a : Assignment) : Type 0 where
  pub homes : AreHomes q.values a.homes
  pub valid : IsVerdict a.homes q Yes
  pub slots : SlotsCrowded q a.homes

-- an assignment for each procedure, in their order
pub record AreAssigned (procs : List BlockProc) (assignments : List Assignment) : Type 0 where
  pub count : length assignments ≡ length procs
  pub each : (f : ℕ) (q : BlockProc) (a : Assignment) → slice_get procs f ≡ Some q → slice_get assignments f ≡ Some a → IsAssigned q a
