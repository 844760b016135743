-- The units of the tests.
use Rattle.std.specs.Prelude.{ℕ, List, [], ◌∷◌, ◌++◌, codes, replicate}
use Rattle.rv_isa.specs.declared.insn.Insn.TheVariants.{Addi, Beq, Jalr, Ecall}
use Rattle.rv_assemble.specs.declared.unit.AsmLine.{AsmLine}
use Rattle.rv_assemble.specs.declared.unit.AsmLine.TheVariants.{Label, Plain, Branch, Call}
use Rattle.rv_assemble.specs.declared.unit.AsmUnit.{AsmUnit}
use Rattle.linker.specs.Names.{entry_name}

-- the end with the stop code that is in a0
abbrev pub end_lines : List AsmLine
end_lines = Plain (Addi 17 0 93) ∷ Plain Ecall ∷ []

-- 7 into a0, and a branch over so many instructions that add 1 to it
abbrev pub branch_lines : List AsmLine
branch_lines = Plain (Addi 10 0 7) ∷ Branch (Beq 0 0 0) 1 ∷ []

abbrev pub sums : ℕ → List AsmLine
sums n = replicate n (Plain (Addi 10 10 1))

abbrev pub over_lines : ℕ → List AsmLine
over_lines n = (branch_lines ++ sums n) ++ Label 1 ∷ end_lines

-- 5 into a0
abbrev pub leaf_lines : List AsmLine
leaf_lines = Plain (Addi 10 0 5) ∷ Plain (Jalr 0 1 0) ∷ []

abbrev pub calling_lines : List AsmLine
calling_lines = Call (codes "f") ∷ end_lines

abbrev pub bare_unit : List ℕ → List AsmLine → AsmUnit
bare_unit name lines = record { name = name; lines = lines; image = []; fixes = [] }

abbrev pub over_units : ℕ → List AsmUnit
over_units n = bare_unit entry_name (over_lines n) ∷ []

abbrev pub calling_units : List AsmUnit
calling_units = bare_unit entry_name calling_lines ∷ bare_unit (codes "f") leaf_lines ∷ []
