-- From a flat program to an image that follows it.
use Rattle.std.specs.Prelude.{ℕ, ◌≡◌, ◌<◌, ◌+◌, ◌*◌, ◌^◌, true, List, slice_get}
use Rattle.behaviour.specs.Follows.{Follows}
use Rattle.jf_base.specs.declared.place.Limits.{Limits}
use Rattle.jf_base.specs.Limits.{AreLimits}
use Rattle.program_image.specs.declared.Image.{Image}
use Rattle.rv_assemble.specs.declared.object.ObjUnit.{ObjUnit}
use Rattle.image_run.specs.Behaviour.{image_behaviour}
use Rattle.assembled_run.specs.Program.{AreLinked}
use Rattle.flat_ir.specs.declared.program.FlatProgram.{FlatProgram}
use Rattle.flat_ir.specs.Checked.{is_ok}
use Rattle.flat_ir.specs.Flat.{flat}
use Rattle.flat_ir.specs.View.{procs_of}
use Rattle.flatten.specs.declared.blocks.BlockInsn.{BlockInsn}
use Rattle.flatten.specs.declared.blocks.BlockInsn.TheVariants as I
use Rattle.flatten.specs.declared.blocks.BlockProc.{BlockProc}
use Rattle.flatten.specs.Code.{program_code}
use Rattle.flatten.specs.Sizes.{sizes_of}
use Rattle.block_homes.specs.declared.homes.Assignment.{Assignment}
use Rattle.block_homes.specs.declared.homes.Verdict.TheVariants.{Yes}
use Rattle.block_homes.specs.Held.{homes_in}
use Rattle.block_homes.specs.Valid.{AreHomes, IsVerdict}
use Rattle.emitted_code.specs.Units.{program_units}
use Rattle.emitted_code.specs.Room.{IsProc, HasInsn, HasRoom, CanEmit}
use Rattle.emitted_code.specs.Placed.{placed, pace, AllBytes}

abbrev pub NumberFits : BlockInsn → Type 0
NumberFits (I.Number x n) = n < 2 ^ 64
NumberFits _ = Unit {0}

-- The blocks of a flat program that holds together, with a home for each value, validated, with room for its frames, and numbers of 64 bits.
pub record Emits (p : FlatProgram) (assignments : List Assignment) : Type 0 where
  pub ok : is_ok p ≡ true
  pub homes : (i : ℕ) (f : BlockProc) → IsProc (program_code p) i f → AreHomes f.values (homes_in (slice_get assignments i))
  pub kept : (i : ℕ) (f : BlockProc) → IsProc (program_code p) i f → IsVerdict (homes_in (slice_get assignments i)) f Yes
  pub room : HasRoom (program_code p)
  pub numbers : (i : ℕ) (f : BlockProc) → IsProc (program_code p) i f → (insn : BlockInsn) → HasInsn f insn → NumberFits insn

-- that is all that code asks
abbrev pub FlatProgramsCanBeEmitted : Type 0
FlatProgramsCanBeEmitted = (p : FlatProgram) (assignments : List Assignment) → Emits p assignments → CanEmit (program_code p) assignments

-- The image of a flat program follows it: for all limits in range and all inputs, within so many instructions for each unit.
abbrev pub ImagesFollowFlatPrograms : Type 0
ImagesFollowFlatPrograms = (p : FlatProgram) (assignments : List Assignment) (os : List ObjUnit) (image : Image) → Emits p assignments → AreLinked (program_units (program_code p) assignments) os image → AllBytes image.bytes
    → (limits : Limits) → AreLimits limits → (input : List ℕ) → AllBytes input
    → Follows (pace (program_code p) * (sizes_of (procs_of p.procs) + 1)) (image_behaviour image limits input) (flat p (placed (program_code p) os limits) input)
