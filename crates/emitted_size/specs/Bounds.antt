-- How long the code of a program is: a bound by its instructions, and by the values that they pass on.
use Rattle.std.specs.Prelude.{ℕ, ◌≤◌, ◌+◌, ◌*◌, List, [], ◌∷◌, length}
use Rattle.program_image.specs.declared.Image.{Image}
use Rattle.rv_assemble.specs.declared.object.ObjUnit.{ObjUnit}
use Rattle.assembled_run.specs.Program.{AreLinked}
use Rattle.flatten.specs.declared.blocks.BlockInsn.{BlockInsn}
use Rattle.flatten.specs.declared.blocks.BlockInsn.TheVariants as I
use Rattle.flatten.specs.declared.blocks.BlockEnd.{BlockEnd}
use Rattle.flatten.specs.declared.blocks.BlockEnd.TheVariants as E
use Rattle.flatten.specs.declared.blocks.Block.{Block}
use Rattle.flatten.specs.declared.blocks.BlockProc.{BlockProc}
use Rattle.flatten.specs.declared.blocks.BlockProgram.{BlockProgram}
use Rattle.block_homes.specs.declared.homes.Assignment.{Assignment}
use Rattle.emitted_code.specs.Units.{program_units}

-- an instruction is one part, and a call one more for each argument, for each result, and for its address
abbrev pub parts : BlockInsn → ℕ
parts (I.Call xs p ys) = 1 + length xs + length ys
parts (I.CallAt xs y ys) = 2 + length xs + length ys
parts _ = 1

-- an end is one part, and a return one more for each result
abbrev pub end_parts : BlockEnd → ℕ
end_parts (E.Return ys) = 1 + length ys
end_parts _ = 1

abbrev pub insns_parts : List BlockInsn → ℕ
insns_parts [] = 0
insns_parts (i ∷ is) = parts i + insns_parts is

abbrev pub blocks_parts : List Block → ℕ
blocks_parts [] = 0
blocks_parts (b ∷ bs) = insns_parts b.insns + end_parts b.end + blocks_parts bs

-- So many lines of assembly at most has a procedure: a part at most 150, each parameter 20, and what enters it 150. A part that leaves it restores all registers, which may lie far in its frame.
abbrev pub most_lines : BlockProc → ℕ
most_lines f = 150 + 20 * f.params + 150 * blocks_parts f.blocks

-- a line is at most three instructions of 4 bytes
abbrev pub most_bytes : List BlockProc → ℕ
most_bytes [] = 0
most_bytes (f ∷ fs) = 12 * most_lines f + most_bytes fs

-- The bytes of a linked program: those of its procedures, its image, and at most 64 for its start and for what aligns the image.
abbrev pub CodeIsLinear : Type 0
CodeIsLinear = (q : BlockProgram) (assignments : List Assignment) (os : List ObjUnit) (image : Image) → AreLinked (program_units q assignments) os image
    → length image.bytes ≤ most_bytes q.procs + length q.image + 64
