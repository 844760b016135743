-- An image that follows a program of the first form.
use Rattle.std.specs.Prelude.{◌≡◌, ◌≤◌, ℕ, ◌+◌, ◌*◌, List, length}
use Rattle.behaviour.specs.Follows.{Follows}
use Rattle.jf_base.specs.declared.place.Limits.{Limits}
use Rattle.jf_base.specs.Limits.{AreLimits}
use Rattle.program_image.specs.declared.Image.{Image}
use Rattle.image_run.specs.Behaviour.{image_behaviour}
use Rattle.first_form.specs.declared.program.FirstProgram.{FirstProgram}
use Rattle.first_form.specs.Readings.{token_count}
use Rattle.first_meaning.specs.Joint.{joint}

-- limits whose heap, objects and frames are those of a run without options
pub record AreStandard (limits : Limits) : Type 0 where
  pub in_range : AreLimits limits
  pub heap : limits.heap ≡ 16777216
  pub objects : limits.objects ≡ 4194304
  pub frames : limits.frames ≡ 1048576

-- an instruction of the image for each unit of the meaning, at most so many
abbrev pub pace : FirstProgram → ℕ
pace p = 1048576 * (token_count p + 64)

-- The image follows the joint meaning of the program, for all inputs, and has few bytes: a program of this form has no static objects, constants or texts.
pub record IsCompiled (p : FirstProgram) (image : Image) : Type 0 where
  pub follows : (limits : Limits) → AreStandard limits → (input : List ℕ) → Follows (pace p) (image_behaviour image limits input) (joint p limits input)
  pub small : length image.bytes ≤ 16384 * (token_count p + 64)
