-- When an image follows a flat program.
use Rattle.std.specs.Prelude.{ℕ, ◌+◌, ◌*◌, List}
use Rattle.behaviour.specs.Follows.{Follows}
use Rattle.jf_base.specs.declared.place.Limits.{Limits}
use Rattle.jf_base.specs.Limits.{AreLimits}
use Rattle.program_image.specs.declared.Image.{Image}
use Rattle.rv_assemble.specs.declared.object.ObjUnit.{ObjUnit}
use Rattle.assembled_run.specs.Program.{AreLinked}
use Rattle.image_run.specs.Behaviour.{image_behaviour}
use Rattle.flat_ir.specs.declared.program.FlatProgram.{FlatProgram}
use Rattle.flat_ir.specs.Flat.{flat}
use Rattle.flat_ir.specs.View.{procs_of}
use Rattle.flatten.specs.Code.{program_code}
use Rattle.flatten.specs.Sizes.{sizes_of}
use Rattle.block_homes.specs.declared.homes.Assignment.{Assignment}
use Rattle.emitted_code.specs.Units.{program_units}
use Rattle.emitted_code.specs.Placed.{placed, pace, AllBytes}

-- so many instructions at most for each unit of the program
abbrev pub instructions : FlatProgram → ℕ
instructions p = pace (program_code p) * (sizes_of (procs_of p.procs) + 1)

-- The image is that of units that were assembled and linked. It shows for all limits in range and every input of bytes what the program shows that lies where these units came to lie.
pub record IsFollowed (p : FlatProgram) (image : Image) : Type 0 where
  pub homes : List Assignment
  pub objects : List ObjUnit
  pub linked : AreLinked (program_units (program_code p) homes) objects image
  pub follows : (limits : Limits) → AreLimits limits → (input : List ℕ) → AllBytes input
      → Follows (instructions p) (image_behaviour image limits input) (flat p (placed (program_code p) objects limits) input)
