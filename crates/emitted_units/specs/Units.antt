-- The units of a program are fit to be linked.
use Rattle.std.specs.Prelude.{ℕ, ◌≡◌, ◌≤◌, ◌<◌, ◌^◌, true, List, length, Some, slice_get}
use Rattle.std.specs.List.{list_all}
use Rattle.rv_assemble.specs.declared.object.ObjUnit.{ObjUnit}
use Rattle.flat_ir.specs.Checked.{fix_fits, all_apart}
use Rattle.flatten.specs.declared.blocks.BlockProc.{BlockProc}
use Rattle.flatten.specs.declared.blocks.BlockProgram.{BlockProgram}
use Rattle.flatten.specs.Named.{ProcsNamed}
use Rattle.block_homes.specs.declared.homes.Assignment.{Assignment}
use Rattle.block_homes.specs.Held.{homes_in}
use Rattle.block_homes.specs.Valid.{AreHomes}
use Rattle.assembled_run.specs.Program.{AreProper, AreAssembled, AreClosed, StayWithin}
use Rattle.emitted_code.specs.Units.{program_units}
use Rattle.emitted_units.specs.Sizes.{ProcsHeld}

-- what blocks name is there, lines can hold their numbers, each value has a home, and fixes lie in the image and apart
pub record CanAssemble (q : BlockProgram) (assignments : List Assignment) : Type 0 where
  pub count : length q.procs ≤ 2 ^ 32
  pub named : ProcsNamed (length q.procs) (length q.image) q.procs
  pub held : ProcsHeld q.procs
  pub homes : (p : ℕ) (f : BlockProc) → slice_get q.procs p ≡ Some f → AreHomes f.values (homes_in (slice_get assignments p))
  pub entry : q.entry < length q.procs
  pub fixes : list_all (λ f. fix_fits (length q.procs) (length q.image) f) q.fixes ≡ true
  pub apart : all_apart q.fixes ≡ true

abbrev pub UnitsAreProper : Type 0
UnitsAreProper = (q : BlockProgram) (assignments : List Assignment) → CanAssemble q assignments → AreProper (program_units q assignments)

abbrev pub UnitsAreClosed : Type 0
UnitsAreClosed = (q : BlockProgram) (assignments : List Assignment) → CanAssemble q assignments → AreClosed (program_units q assignments)

abbrev pub UnitsStayWithin : Type 0
UnitsStayWithin = (q : BlockProgram) (assignments : List Assignment) → CanAssemble q assignments
    → (os : List ObjUnit) → AreAssembled (program_units q assignments) os → StayWithin (program_units q assignments) os
