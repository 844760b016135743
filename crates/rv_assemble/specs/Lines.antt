-- What a unit of assembly means: each line stands at its place, and each branch reaches its label's place, whichever form it took.
use Rattle.std.specs.Prelude.{ℕ, ◌≡◌, ◌≢◌, ◌<◌, ◌≤◌, ◌+◌, ◌-◌, ◌%◌, ◌^◌, ◌⊎◌, List, [], ◌∷◌, ◌++◌, length, slice_index, slice_get, Some}
use Rattle.jf_base.specs.Numbers.{number_low_first}
use Rattle.rv_isa.specs.declared.insn.Insn.{Insn}
use Rattle.rv_isa.specs.declared.insn.Insn.TheVariants.{Auipc, Jal, Jalr, Beq, Bne, Blt, Bge, Bltu, Bgeu, Addi}
use Rattle.rv_isa.specs.Encode.{IsEncodable, HasWord}
use Rattle.rv_assemble.specs.declared.unit.AsmLine.{AsmLine}
use Rattle.rv_assemble.specs.declared.unit.AsmLine.TheVariants.{Label, Plain, Branch, Call, Address}
use Rattle.rv_assemble.specs.declared.unit.NamedFix.{NamedFix}
use Rattle.rv_assemble.specs.declared.unit.AsmUnit.{AsmUnit}
use Rattle.rv_assemble.specs.declared.object.Relocation.{Relocation}
use Rattle.rv_assemble.specs.declared.object.RelocationKind.TheVariants.{Pair, Word}
use Rattle.rv_assemble.specs.declared.object.ObjUnit.{ObjUnit}

-- the word of the instruction stands at the place, its lowest byte first (the RISC-V unprivileged specification, section 1.5)
pub record Stands (code : List ℕ) (place : ℕ) (i : Insn) : Type 0 where
  pub inside : place + 4 ≤ length code
  pub word : HasWord (number_low_first place 4 code) i

-- how far it is, in 64 bits
abbrev pub distance : (from to : ℕ) → ℕ
distance from to = (to + (2 ^ 64 - from)) % 2 ^ 64

-- an AUIPC into rs1 stands at the place, and behind it i with the low part: together they make the distance (psABI, PC-relative addresses)
pub record MakesDistance (code : List ℕ) (place rs1 far : ℕ) (i : ℕ → Insn) : Type 0 where
  pub high : ℕ
  pub low : ℕ
  pub first : Stands code place (Auipc rs1 high)
  pub second : Stands code (place + 4) (i low)
  pub sum : (high + low) % 2 ^ 64 ≡ far

-- a jump to the target: a JAL, or a pair over x6
abbrev pub Jumps : (code : List ℕ) (rd place next target : ℕ) → Type 0
Jumps code rd place next target =
    ((next ≡ place + 4) × Stands code place (Jal rd (distance place target)))
    ⊎ ((next ≡ place + 8) × MakesDistance code place 6 (distance place target) (λ low. Jalr rd 6 low))

-- a conditional branch with another immediate
abbrev pub aimed : Insn → ℕ → Insn
aimed (Beq rs1 rs2 imm) far = Beq rs1 rs2 far
aimed (Bne rs1 rs2 imm) far = Bne rs1 rs2 far
aimed (Blt rs1 rs2 imm) far = Blt rs1 rs2 far
aimed (Bge rs1 rs2 imm) far = Bge rs1 rs2 far
aimed (Bltu rs1 rs2 imm) far = Bltu rs1 rs2 far
aimed (Bgeu rs1 rs2 imm) far = Bgeu rs1 rs2 far
aimed i far = i

-- the branch on the opposite condition
abbrev pub opposite : Insn → Insn
opposite (Beq rs1 rs2 imm) = Bne rs1 rs2 imm
opposite (Bne rs1 rs2 imm) = Beq rs1 rs2 imm
opposite (Blt rs1 rs2 imm) = Bge rs1 rs2 imm
opposite (Bge rs1 rs2 imm) = Blt rs1 rs2 imm
opposite (Bltu rs1 rs2 imm) = Bgeu rs1 rs2 imm
opposite (Bgeu rs1 rs2 imm) = Bltu rs1 rs2 imm
opposite i = i

-- a conditional branch to the target: itself, or the opposite one over a jump
abbrev pub Branches : (code : List ℕ) (insn : Insn) (place next target : ℕ) → Type 0
Branches code insn place next target =
    ((next ≡ place + 4) × Stands code place (aimed insn (distance place target)))
    ⊎ (Stands code place (aimed (opposite insn) (distance place next)) × Jumps code 0 (place + 4) next target)

abbrev pub Reaches : (code : List ℕ) (insn : Insn) (place next target : ℕ) → Type 0
Reaches code (Jal rd imm) place next target = Jumps code rd place next target
Reaches code insn place next target = Branches code insn place next target

-- the label stands on a line
abbrev pub HasLabel : List AsmLine → ℕ → Type 0
HasLabel lines to = (k : ℕ) × (slice_get lines k ≡ Some (Label to))

-- a line between its place and that of the next; the places are those of all lines
abbrev pub LineAt : (lines : List AsmLine) (places code : List ℕ) (place next : ℕ) → AsmLine → Type 0
LineAt lines places code place next (Label label) = next ≡ place
LineAt lines places code place next (Plain i) = (next ≡ place + 4) × Stands code place i
LineAt lines places code place next (Branch insn to) =
    (k : ℕ) × (slice_get lines k ≡ Some (Label to)) × Reaches code insn place next (slice_index places k)
LineAt lines places code place next (Call name) =
    (next ≡ place + 8) × Stands code place (Auipc 1 0) × Stands code (place + 4) (Jalr 1 1 0)
LineAt lines places code place next (Address rd name offset) =
    (next ≡ place + 8) × Stands code place (Auipc rd 0) × Stands code (place + 4) (Addi rd rd 0)

-- what a line asks of the linker
abbrev pub asked_by : (place : ℕ) → AsmLine → List Relocation
asked_by place (Call name) = record { at = place; name = name; offset = 0; kind = Pair } ∷ []
asked_by place (Address rd name offset) = record { at = place; name = name; offset = offset; kind = Pair } ∷ []
asked_by place _ = []

-- what the lines from the k-th on ask
abbrev pub asked_by_lines : (k : ℕ) → List AsmLine → List ℕ → List Relocation
asked_by_lines k [] places = []
asked_by_lines k (line ∷ lines) places = asked_by (slice_index places k) line ++ asked_by_lines (k + 1) lines places

-- what the fixes ask, behind so much code
abbrev pub asked_by_fix : (code_len : ℕ) → NamedFix → Relocation
asked_by_fix code_len fix = record { at = code_len + fix.at; name = fix.name; offset = fix.offset; kind = Word }

abbrev pub asked_by_fixes : (code_len : ℕ) → List NamedFix → List Relocation
asked_by_fixes code_len [] = []
asked_by_fixes code_len (fix ∷ fixes) = asked_by_fix code_len fix ∷ asked_by_fixes code_len fixes

-- the object is the unit's: its lines at their places one behind the other, its image, its name at its start, and all that it asks for
pub record IsAssembled (u : AsmUnit) (o : ObjUnit) : Type 0 where
  pub places : List ℕ
  pub count : length places ≡ length u.lines + 1
  pub begins : slice_index places 0 ≡ 0
  pub ends : slice_index places (length u.lines) ≡ length o.code
  pub lines : (k : ℕ) (line : AsmLine) → slice_get u.lines k ≡ Some line
      → LineAt u.lines places o.code (slice_index places k) (slice_index places (k + 1)) line
  pub image : o.image ≡ u.image
  pub names : o.names ≡ (u.name, 0) ∷ []
  pub relocations : o.relocations ≡ asked_by_lines 0 u.lines places ++ asked_by_fixes (length o.code) u.fixes

-- a conditional branch or JAL of registers
abbrev pub IsBranch : Insn → Type 0
IsBranch (Beq rs1 rs2 imm) = (rs1 < 32) × (rs2 < 32)
IsBranch (Bne rs1 rs2 imm) = (rs1 < 32) × (rs2 < 32)
IsBranch (Blt rs1 rs2 imm) = (rs1 < 32) × (rs2 < 32)
IsBranch (Bge rs1 rs2 imm) = (rs1 < 32) × (rs2 < 32)
IsBranch (Bltu rs1 rs2 imm) = (rs1 < 32) × (rs2 < 32)
IsBranch (Bgeu rs1 rs2 imm) = (rs1 < 32) × (rs2 < 32)
IsBranch (Jal rd imm) = rd < 32
IsBranch _ = ⊥

abbrev pub IsProperLine : List AsmLine → AsmLine → Type 0
IsProperLine lines (Label label) = Unit {0}
IsProperLine lines (Plain i) = IsEncodable i
IsProperLine lines (Branch insn to) = IsBranch insn × HasLabel lines to
IsProperLine lines (Call name) = Unit {0}
IsProperLine lines (Address rd name offset) = rd < 32

-- each line can be assembled, and each label that is named stands on a line
abbrev pub AreProperLines : List AsmLine → Type 0
AreProperLines lines = (k : ℕ) (line : AsmLine) → slice_get lines k ≡ Some line → IsProperLine lines line

-- a unit that can be assembled: its lines are proper, and its fixes lie in its image and apart from each other
pub record IsProperUnit (u : AsmUnit) : Type 0 where
  pub lines : AreProperLines u.lines
  pub fixes : (k : ℕ) (fix : NamedFix) → slice_get u.fixes k ≡ Some fix → fix.at + 8 ≤ length u.image
  pub apart : (i j : ℕ) (fix other : NamedFix) → slice_get u.fixes i ≡ Some fix → slice_get u.fixes j ≡ Some other → i ≢ j
      → (fix.at + 8 ≤ other.at) ⊎ (other.at + 8 ≤ fix.at)
