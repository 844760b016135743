-- What the assembler's own functions keep.
use Rattle.std.specs.Prelude.{ℕ, ◌≡◌, ◌<◌, ◌≤◌, ◌+◌, ◌-◌, ◌%◌, ◌^◌, ◌⊎◌, nat_lt, ◌==◌, unwrap_or, if◌then◌else◌, List, length, slice_index, slice_get, Option, Some}
use Rattle.rv_isa.specs.declared.insn.Insn.{Insn}
use Rattle.rv_isa.specs.declared.insn.Insn.TheVariants.{Auipc, Jal, Jalr, Addi}
use Rattle.rv_isa.specs.Encode.{IsEncodable, IsSigned}
use Rattle.rv_assemble.specs.declared.unit.AsmLine.{AsmLine}
use Rattle.rv_assemble.specs.declared.unit.AsmLine.TheVariants.{Label, Plain, Branch, Call, Address}
use Rattle.rv_assemble.specs.Lines.{distance, Stands, Reaches, IsBranch}

-- the old bytes stand at the start of the new ones
pub record Keeps (old new : List ℕ) : Type 0 where
  pub longer : length old ≤ length new
  pub bytes : (k : ℕ) → k < length old → slice_index new k ≡ slice_index old k

-- a distance that an AUIPC and the instruction behind it can make
abbrev pub IsInReach : ℕ → Type 0
IsInReach far = (far < 2 ^ 64) × ((far + 2000000000) % 2 ^ 64 < 4000000000)

-- so many bytes suffice for a jump
abbrev pub FitsJump : (place next target : ℕ) → Type 0
FitsJump place next target =
    ((next ≡ place + 4) × IsSigned 21 (distance place target) × (distance place target % 2 ≡ 0))
    ⊎ ((next ≡ place + 8) × IsInReach (distance place target))

abbrev pub FitsBranch : (place next target : ℕ) → Type 0
FitsBranch place next target =
    ((next ≡ place + 4) × IsSigned 13 (distance place target) × (distance place target % 2 ≡ 0))
    ⊎ ((place + 8 ≤ next) × (next ≤ place + 12) × FitsJump (place + 4) next target)

abbrev pub FitsInsn : Insn → (place next target : ℕ) → Type 0
FitsInsn (Jal rd imm) place next target = FitsJump place next target
FitsInsn i place next target = FitsBranch place next target

-- a conditional branch of registers
abbrev pub IsConditional : Insn → Type 0
IsConditional (Jal rd imm) = ⊥
IsConditional i = IsBranch i

-- a line, with its target given
abbrev pub LineTo : (code : List ℕ) (place next target : ℕ) → AsmLine → Type 0
LineTo code place next target (Label label) = next ≡ place
LineTo code place next target (Plain i) = (next ≡ place + 4) × Stands code place i
LineTo code place next target (Branch insn to) = Reaches code insn place next target
LineTo code place next target (Call name) =
    (next ≡ place + 8) × Stands code place (Auipc 1 0) × Stands code (place + 4) (Jalr 1 1 0)
LineTo code place next target (Address rd name offset) =
    (next ≡ place + 8) × Stands code place (Auipc rd 0) × Stands code (place + 4) (Addi rd rd 0)

-- the line's operands are proper
abbrev pub IsProperFor : AsmLine → Type 0
IsProperFor (Label label) = Unit {0}
IsProperFor (Plain i) = IsEncodable i
IsProperFor (Branch insn to) = IsBranch insn
IsProperFor (Call name) = Unit {0}
IsProperFor (Address rd name offset) = rd < 32

-- so many bytes suffice for a line
abbrev pub FitsLine : AsmLine → (place next target : ℕ) → Type 0
FitsLine (Label label) place next target = next ≡ place
FitsLine (Plain i) place next target = next ≡ place + 4
FitsLine (Branch insn to) place next target = FitsInsn insn place next target
FitsLine (Call name) place next target = next ≡ place + 8
FitsLine (Address rd name offset) place next target = next ≡ place + 8

-- the bytes of a line at most
abbrev pub widest_of : AsmLine → ℕ
widest_of (Label label) = 0
widest_of (Plain i) = 4
widest_of (Branch insn to) = 12
widest_of (Call name) = 8
widest_of (Address rd name offset) = 8

-- the bytes of a jump and of a branch whose target is at most so far
abbrev pub jump_size : ℕ → ℕ
jump_size far = if nat_lt far 1048000 then 4 else 8

abbrev pub branch_size : Insn → ℕ → ℕ
branch_size (Jal rd imm) far = jump_size far
branch_size i far = if nat_lt far 4000 then 4 else 4 + jump_size far

abbrev pub size_of_line : AsmLine → ℕ → ℕ
size_of_line (Label label) far = 0
size_of_line (Plain i) far = 4
size_of_line (Branch insn to) far = branch_size insn far
size_of_line (Call name) far = 8
size_of_line (Address rd name offset) far = 8

abbrev pub gap : (here there : ℕ) → ℕ
gap here there = (here - there) + (there - here)

-- the places of lines that take all the bytes that they may take
pub record AreWide (lines : List AsmLine) (wide : List ℕ) : Type 0 where
  pub count : length wide ≡ length lines + 1
  pub begins : slice_index wide 0 ≡ 0
  pub steps : (k : ℕ) (line : AsmLine) → slice_get lines k ≡ Some line → slice_index wide (k + 1) ≡ slice_index wide k + widest_of line
  pub small : (k : ℕ) → slice_index wide k < 1999999990

-- the line of each branch's label
pub record AreTargets (lines : List AsmLine) (targets : List ℕ) : Type 0 where
  pub count : length targets ≡ length lines
  pub bound : (k : ℕ) → slice_index targets k ≤ length lines
  pub labels : (k : ℕ) (insn : Insn) (to : ℕ) → slice_get lines k ≡ Some (Branch insn to) → slice_get lines (slice_index targets k) ≡ Some (Label to)

-- the places of the lines, each as long as its target's distance in the widest layout asks
pub record ArePlaces (lines : List AsmLine) (targets wide places : List ℕ) : Type 0 where
  pub count : length places ≡ length lines + 1
  pub begins : slice_index places 0 ≡ 0
  pub steps : (k : ℕ) (line : AsmLine) → slice_get lines k ≡ Some line
      → slice_index places (k + 1) ≡ slice_index places k + size_of_line line (gap (slice_index wide k) (slice_index wide (slice_index targets k)))
  pub narrow : (k : ℕ) → slice_index places k ≤ slice_index wide k

-- the line of each label, by number, as far as the first n lines have it
pub record AreLabelLines (lines : List AsmLine) (n : ℕ) (line_of : ℕ → Option ℕ) : Type 0 where
  pub sound : (label k : ℕ) → line_of label ≡ Some k → slice_get lines k ≡ Some (Label label)
  pub full : (label k : ℕ) → k < n → slice_get lines k ≡ Some (Label label) → (j : ℕ) × (line_of label ≡ Some j)

-- the line of a branch's label, and 0 for another line
abbrev pub target_by : (ℕ → Option ℕ) → AsmLine → ℕ
target_by line_of (Branch insn to) = unwrap_or (line_of to) 0
target_by line_of _ = 0

-- with a label's line, if this is a label
abbrev pub with_label : (ℕ → Option ℕ) → ℕ → AsmLine → ℕ → Option ℕ
with_label line_of k (Label label) l = if label == l then Some k else line_of l
with_label line_of k _ l = line_of l

-- each line suffices for what it has to do
pub record AreFitting (lines : List AsmLine) (targets places : List ℕ) : Type 0 where
  pub count : length places ≡ length lines + 1
  pub target_count : length targets ≡ length lines
  pub bound : (k : ℕ) → slice_index targets k ≤ length lines
  pub begins : slice_index places 0 ≡ 0
  pub fits : (k : ℕ) (line : AsmLine) → slice_get lines k ≡ Some line
      → FitsLine line (slice_index places k) (slice_index places (k + 1)) (slice_index places (slice_index targets k))

-- the code of the first n lines
pub record IsCodeTo (lines : List AsmLine) (targets places : List ℕ) (n : ℕ) (code : List ℕ) : Type 0 where
  pub ends : length code ≡ slice_index places n
  pub each : (k : ℕ) (line : AsmLine) → k < n → slice_get lines k ≡ Some line
      → LineTo code (slice_index places k) (slice_index places (k + 1)) (slice_index places (slice_index targets k)) line
