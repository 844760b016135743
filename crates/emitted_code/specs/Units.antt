-- The units of assembly of a program: one for each procedure in their order, and a last one with the program's start and its image.
use Rattle.std.specs.Prelude.{ℕ, ◌+◌, ◌-◌, cond, List, [], ◌∷◌, ◌++◌, map, Option, Some, None, slice_get}
use Rattle.rv_assemble.specs.declared.unit.AsmLine.{AsmLine}
use Rattle.rv_assemble.specs.declared.unit.AsmLine.TheVariants.{Call}
use Rattle.rv_assemble.specs.declared.unit.NamedFix.{NamedFix}
use Rattle.rv_assemble.specs.declared.unit.AsmUnit.{AsmUnit}
use Rattle.flat_ir.specs.declared.program.Fix.{Fix}
use Rattle.flat_ir.specs.declared.program.Target.{Target}
use Rattle.flat_ir.specs.declared.program.Target.TheVariants as T
use Rattle.flat_ir.specs.declared.program.Operation.TheVariants as O
use Rattle.flatten.specs.declared.blocks.BlockProc.{BlockProc}
use Rattle.flatten.specs.declared.blocks.BlockProgram.{BlockProgram}
use Rattle.block_homes.specs.declared.homes.Assignment.{Assignment}
use Rattle.block_homes.specs.Held.{homes_in}
use Rattle.emitted_code.specs.Straight.{Operate, lines, load_pair}
use Rattle.emitted_code.specs.Frames.{is_charged, frame_size, layout_of}
use Rattle.emitted_code.specs.Code.{proc_lines}
use Rattle.emitted_code.specs.Names.{proc_name, image_name, image_place}

abbrev pub proc_unit : ℕ → BlockProc → Option Assignment → AsmUnit
proc_unit p f a = record { name = proc_name p; lines = proc_lines (layout_of f (homes_in a)) f; image = []; fixes = [] }

-- those from the number p on; each procedure has the assignment of its number
abbrev pub proc_units : ℕ → List BlockProc → List Assignment → List AsmUnit
proc_units p [] assignments = []
proc_units p (f ∷ fs) [] = proc_unit p f None ∷ proc_units (p + 1) fs []
proc_units p (f ∷ fs) (a ∷ as') = proc_unit p f (Some a) ∷ proc_units (p + 1) fs as'

-- so many bytes does an entry take that is charged nothing
abbrev pub first_size : Option BlockProc → ℕ
first_size None = 0
first_size (Some f) = cond (is_charged f) 0 (frame_size f)

-- The frames begin at a4 and have 8,192 bytes more than their limit, of which an entry that is charged nothing takes some.
-- x3 is so that x2 less x3 is what is left of the limit, and stays so.
abbrev pub start_lines : ℕ → ℕ → List AsmLine
start_lines first entry = lines (load_pair 3 (8192 - first) ++ (Operate O.Add 3 3 14 ∷ [])) (Call (proc_name entry) ∷ [])

abbrev pub target_fix : ℕ → Target → NamedFix
target_fix at (T.Proc p) = record { at = at; name = proc_name p; offset = 0 }
target_fix at (T.Image n) = record { at = at; name = image_name; offset = image_place n }

abbrev pub named_fix : Fix → NamedFix
named_fix f = target_fix f.at f.target

abbrev pub image_unit : BlockProgram → AsmUnit
image_unit q = record {
  name = image_name;
  lines = start_lines (first_size (slice_get q.procs q.entry)) q.entry;
  image = q.image;
  fixes = map named_fix q.fixes;
}

abbrev pub program_units : BlockProgram → List Assignment → List AsmUnit
program_units q assignments = proc_units 0 q.procs assignments ++ image_unit q ∷ []
