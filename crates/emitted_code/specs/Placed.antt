-- Where a linked program lies, and that its image follows its blocks.
use Rattle.std.specs.Prelude.{ℕ, ◌≡◌, ◌<◌, ◌+◌, ◌*◌, ◌^◌, Bool, false, not, ◌&&◌, nat_eq, cond, max, List, [], ◌∷◌, length, take, Option, Some, None, slice_get, slice_index}
use Rattle.behaviour.specs.Follows.{Follows}
use Rattle.jf_base.specs.declared.place.Limits.{Limits}
use Rattle.jf_base.specs.Limits.{AreLimits}
use Rattle.program_image.specs.declared.Image.{Image}
use Rattle.rv_assemble.specs.declared.object.ObjUnit.{ObjUnit}
use Rattle.linker.specs.Layout.{codes, code_size}
use Rattle.linker.specs.Linked.{base}
use Rattle.image_run.specs.Behaviour.{image_behaviour}
use Rattle.assembled_run.specs.Program.{AreLinked}
use Rattle.flat_ir.specs.Placement.{Placement, first_bytes}
use Rattle.flatten.specs.declared.blocks.BlockProc.{BlockProc}
use Rattle.flatten.specs.declared.blocks.BlockProgram.{BlockProgram}
use Rattle.flatten.specs.Blocks.{blocks}
use Rattle.block_homes.specs.declared.homes.Assignment.{Assignment}
use Rattle.emitted_code.specs.Frames.{is_charged}
use Rattle.emitted_code.specs.Units.{program_units}
use Rattle.emitted_code.specs.Room.{CanEmit}

-- an entry that is charged nothing: nothing calls it, not even at an address
abbrev pub is_free : Option BlockProc → Bool
is_free None = false
is_free (Some f) = not (is_charged f)

abbrev pub is_alone : BlockProgram → ℕ → Bool
is_alone q p = nat_eq p q.entry && is_free (slice_get q.procs p)

-- A procedure lies where its code begins, and the image behind all code. What can't be called lies at an address that is no number of 64 bits.
abbrev pub placed : BlockProgram → List ObjUnit → Limits → Placement
placed q os limits = record {
  image = base + code_size os;
  procs = λ p. cond (is_alone q p) (2 ^ 64) (base + length (codes (take p os)));
  limits = limits;
}

-- at most so many instructions for each step of the blocks
abbrev pub most_params : List BlockProc → ℕ
most_params [] = 0
most_params (f ∷ fs) = max f.params (most_params fs)

abbrev pub pace : BlockProgram → ℕ
pace q = 400 + 40 * most_params q.procs

-- each number of a list is one of a byte
abbrev pub AllBytes : List ℕ → Type 0
AllBytes [] = Unit {0}
AllBytes (b ∷ bs) = (b < 256) × AllBytes bs

-- the image has the program's bytes, each address in its place
abbrev pub HoldsImage : BlockProgram → List ObjUnit → Image → Limits → Type 0
HoldsImage q os image limits = (j : ℕ) → j < length q.image → slice_index image.bytes (code_size os + j) ≡ first_bytes (placed q os limits) q.image q.fixes (base + code_size os + j)

-- The image of a program's units follows its blocks, wherever its parts came to lie: for all limits in range and all inputs, within `pace` instructions for each step.
-- Arguments and results lie where the psABI says, frames take their charges, and a call that would pass the limit on frames ends the run at it.
abbrev pub ImagesFollowBlocks : Type 0
ImagesFollowBlocks = (q : BlockProgram) (assignments : List Assignment) (os : List ObjUnit) (image : Image) → CanEmit q assignments → AreLinked (program_units q assignments) os image → AllBytes image.bytes
    → (limits : Limits) → AreLimits limits → (input : List ℕ) → AllBytes input → Follows (pace q) (image_behaviour image limits input) (blocks q (placed q os limits) input)
