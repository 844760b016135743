-- What lines of assembly can hold of a program: its numbers are of 64 bits, and its counts of 32.
use Rattle.std.specs.Prelude.{◌≤◌, ◌<◌, ◌+◌, ◌*◌, ◌^◌, List, [], ◌∷◌, length}
use Rattle.flatten.specs.declared.blocks.BlockInsn.{BlockInsn}
use Rattle.flatten.specs.declared.blocks.BlockInsn.TheVariants as I
use Rattle.flatten.specs.declared.blocks.BlockEnd.{BlockEnd}
use Rattle.flatten.specs.declared.blocks.BlockEnd.TheVariants as E
use Rattle.flatten.specs.declared.blocks.Block.{Block}
use Rattle.flatten.specs.declared.blocks.BlockProc.{BlockProc}
use Rattle.emitted_code.specs.Frames.{frame_size}

-- results go into the registers from a0 on, of which there are 22
abbrev pub InsnHeld : BlockInsn → Type 0
InsnHeld (I.Number x n) = n < 2 ^ 64
InsnHeld (I.Call xs p ys) = (length xs ≤ 22) × (length ys < 2 ^ 32)
InsnHeld (I.CallAt xs y ys) = (length xs ≤ 22) × (length ys < 2 ^ 32)
InsnHeld _ = Unit {0}

abbrev pub EndHeld : BlockEnd → Type 0
EndHeld (E.Return ys) = length ys ≤ 22
EndHeld _ = Unit {0}

abbrev pub InsnsHeld : List BlockInsn → Type 0
InsnsHeld [] = Unit {0}
InsnsHeld (i ∷ is) = InsnHeld i × InsnsHeld is

abbrev pub BlocksHeld : List Block → Type 0
BlocksHeld [] = Unit {0}
BlocksHeld (b ∷ bs) = InsnsHeld b.insns × EndHeld b.end × BlocksHeld bs

-- the frame ends, with the arguments behind it, within 64 bits
pub record ProcHeld (f : BlockProc) : Type 0 where
  pub values : f.values < 2 ^ 32
  pub frame : frame_size f + 8 * f.params < 2 ^ 64
  pub blocks : BlocksHeld f.blocks

abbrev pub ProcsHeld : List BlockProc → Type 0
ProcsHeld [] = Unit {0}
ProcsHeld (f ∷ fs) = ProcHeld f × ProcsHeld fs
