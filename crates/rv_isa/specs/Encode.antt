-- The words of instructions: the RISC-V unprivileged specification, sections 2.2 and 2.3 (formats and immediates), and its listings of RV64I and RV64M.
-- A field of a format is written with the place of its lowest bit; opcode, funct3, funct6 and funct7 are the fixed fields of a row.
use Rattle.std.specs.Prelude.{ℕ, ◌≡◌, ◌<◌, ◌+◌, ◌-◌, ◌*◌, ◌/◌, ◌%◌, ◌^◌}
use Rattle.rv_isa.specs.declared.insn.Insn.{Insn}
use Rattle.rv_isa.specs.declared.insn.Insn.TheVariants.{Lui, Auipc, Jal, Jalr, Beq, Bne, Blt, Bge, Bltu, Bgeu, Lb, Lh, Lw, Ld, Lbu, Lhu, Lwu, Sb, Sh, Sw, Sd, Addi, Slti, Sltiu, Xori, Ori, Andi, Slli, Srli, Srai, Addiw, Slliw, Srliw, Sraiw, Add, Sub, Sll, Slt, Sltu, Xor, Srl, Sra, Or, And, Mul, Mulh, Mulhsu, Mulhu, Div, Divu, Rem, Remu, Addw, Subw, Sllw, Srlw, Sraw, Mulw, Divw, Divuw, Remw, Remuw, Fence, Ecall, Ebreak}

-- the R format: two registers read
abbrev pub register_word : (opcode funct3 funct7 rd rs1 rs2 : ℕ) → ℕ
register_word opcode funct3 funct7 rd rs1 rs2 =
    opcode + 2 ^ 7 * rd + 2 ^ 12 * funct3 + 2 ^ 15 * rs1 + 2 ^ 20 * rs2 + 2 ^ 25 * funct7

-- the I format: bits 0 to 11 of the immediate from bit 20 on
abbrev pub immediate_word : (opcode funct3 rd rs1 imm : ℕ) → ℕ
immediate_word opcode funct3 rd rs1 imm =
    opcode + 2 ^ 7 * rd + 2 ^ 12 * funct3 + 2 ^ 15 * rs1 + 2 ^ 20 * (imm % 2 ^ 12)

-- the I format of shifts: the amount, of 6 bits, from bit 20 on, and funct6 above it
abbrev pub shift_word : (opcode funct3 funct6 rd rs1 amount : ℕ) → ℕ
shift_word opcode funct3 funct6 rd rs1 amount =
    opcode + 2 ^ 7 * rd + 2 ^ 12 * funct3 + 2 ^ 15 * rs1 + 2 ^ 20 * amount + 2 ^ 26 * funct6

-- the same of shifts of words: the amount has 5 bits, and funct7 stands above it
abbrev pub word_shift_word : (opcode funct3 funct7 rd rs1 amount : ℕ) → ℕ
word_shift_word opcode funct3 funct7 rd rs1 amount =
    opcode + 2 ^ 7 * rd + 2 ^ 12 * funct3 + 2 ^ 15 * rs1 + 2 ^ 20 * amount + 2 ^ 25 * funct7

-- the S format: bits 0 to 4 of the immediate from bit 7 on, bits 5 to 11 from bit 25 on
abbrev pub store_word : (opcode funct3 rs1 rs2 imm : ℕ) → ℕ
store_word opcode funct3 rs1 rs2 imm =
    opcode + 2 ^ 7 * (imm % 2 ^ 5) + 2 ^ 12 * funct3 + 2 ^ 15 * rs1 + 2 ^ 20 * rs2 + 2 ^ 25 * (imm / 2 ^ 5 % 2 ^ 7)

-- the B format: bit 11 at bit 7, bits 1 to 4 from bit 8 on, bits 5 to 10 from bit 25 on, bit 12 at bit 31
abbrev pub branch_word : (opcode funct3 rs1 rs2 imm : ℕ) → ℕ
branch_word opcode funct3 rs1 rs2 imm =
    opcode + 2 ^ 7 * (imm / 2 ^ 11 % 2) + 2 ^ 8 * (imm / 2 % 2 ^ 4) + 2 ^ 12 * funct3 + 2 ^ 15 * rs1 + 2 ^ 20 * rs2
    + 2 ^ 25 * (imm / 2 ^ 5 % 2 ^ 6) + 2 ^ 31 * (imm / 2 ^ 12 % 2)

-- the U format: bits 12 to 31 of the immediate in their places
abbrev pub upper_word : (opcode rd imm : ℕ) → ℕ
upper_word opcode rd imm = opcode + 2 ^ 7 * rd + 2 ^ 12 * (imm / 2 ^ 12 % 2 ^ 20)

-- the J format: bits 12 to 19 in their places, bit 11 at bit 20, bits 1 to 10 from bit 21 on, bit 20 at bit 31
abbrev pub jump_word : (opcode rd imm : ℕ) → ℕ
jump_word opcode rd imm =
    opcode + 2 ^ 7 * rd + 2 ^ 12 * (imm / 2 ^ 12 % 2 ^ 8) + 2 ^ 20 * (imm / 2 ^ 11 % 2) + 2 ^ 21 * (imm / 2 % 2 ^ 10)
    + 2 ^ 31 * (imm / 2 ^ 20 % 2)

-- the word of an instruction: its format, with the fixed fields of its row
unfoldable pub encode_of : Insn → ℕ
encode_of (Lui rd imm) = upper_word 0x37 rd imm
encode_of (Auipc rd imm) = upper_word 0x17 rd imm
encode_of (Jal rd imm) = jump_word 0x6f rd imm
encode_of (Jalr rd rs1 imm) = immediate_word 0x67 0 rd rs1 imm
encode_of (Beq rs1 rs2 imm) = branch_word 0x63 0 rs1 rs2 imm
encode_of (Bne rs1 rs2 imm) = branch_word 0x63 1 rs1 rs2 imm
encode_of (Blt rs1 rs2 imm) = branch_word 0x63 4 rs1 rs2 imm
encode_of (Bge rs1 rs2 imm) = branch_word 0x63 5 rs1 rs2 imm
encode_of (Bltu rs1 rs2 imm) = branch_word 0x63 6 rs1 rs2 imm
encode_of (Bgeu rs1 rs2 imm) = branch_word 0x63 7 rs1 rs2 imm
encode_of (Lb rd rs1 imm) = immediate_word 0x03 0 rd rs1 imm
encode_of (Lh rd rs1 imm) = immediate_word 0x03 1 rd rs1 imm
encode_of (Lw rd rs1 imm) = immediate_word 0x03 2 rd rs1 imm
encode_of (Ld rd rs1 imm) = immediate_word 0x03 3 rd rs1 imm
encode_of (Lbu rd rs1 imm) = immediate_word 0x03 4 rd rs1 imm
encode_of (Lhu rd rs1 imm) = immediate_word 0x03 5 rd rs1 imm
encode_of (Lwu rd rs1 imm) = immediate_word 0x03 6 rd rs1 imm
encode_of (Sb rs1 rs2 imm) = store_word 0x23 0 rs1 rs2 imm
encode_of (Sh rs1 rs2 imm) = store_word 0x23 1 rs1 rs2 imm
encode_of (Sw rs1 rs2 imm) = store_word 0x23 2 rs1 rs2 imm
encode_of (Sd rs1 rs2 imm) = store_word 0x23 3 rs1 rs2 imm
encode_of (Addi rd rs1 imm) = immediate_word 0x13 0 rd rs1 imm
encode_of (Slti rd rs1 imm) = immediate_word 0x13 2 rd rs1 imm
encode_of (Sltiu rd rs1 imm) = immediate_word 0x13 3 rd rs1 imm
encode_of (Xori rd rs1 imm) = immediate_word 0x13 4 rd rs1 imm
encode_of (Ori rd rs1 imm) = immediate_word 0x13 6 rd rs1 imm
encode_of (Andi rd rs1 imm) = immediate_word 0x13 7 rd rs1 imm
encode_of (Slli rd rs1 imm) = shift_word 0x13 1 0x00 rd rs1 imm
encode_of (Srli rd rs1 imm) = shift_word 0x13 5 0x00 rd rs1 imm
encode_of (Srai rd rs1 imm) = shift_word 0x13 5 0x10 rd rs1 imm
encode_of (Addiw rd rs1 imm) = immediate_word 0x1b 0 rd rs1 imm
encode_of (Slliw rd rs1 imm) = word_shift_word 0x1b 1 0x00 rd rs1 imm
encode_of (Srliw rd rs1 imm) = word_shift_word 0x1b 5 0x00 rd rs1 imm
encode_of (Sraiw rd rs1 imm) = word_shift_word 0x1b 5 0x20 rd rs1 imm
encode_of (Add rd rs1 rs2) = register_word 0x33 0 0x00 rd rs1 rs2
encode_of (Sub rd rs1 rs2) = register_word 0x33 0 0x20 rd rs1 rs2
encode_of (Sll rd rs1 rs2) = register_word 0x33 1 0x00 rd rs1 rs2
encode_of (Slt rd rs1 rs2) = register_word 0x33 2 0x00 rd rs1 rs2
encode_of (Sltu rd rs1 rs2) = register_word 0x33 3 0x00 rd rs1 rs2
encode_of (Xor rd rs1 rs2) = register_word 0x33 4 0x00 rd rs1 rs2
encode_of (Srl rd rs1 rs2) = register_word 0x33 5 0x00 rd rs1 rs2
encode_of (Sra rd rs1 rs2) = register_word 0x33 5 0x20 rd rs1 rs2
encode_of (Or rd rs1 rs2) = register_word 0x33 6 0x00 rd rs1 rs2
encode_of (And rd rs1 rs2) = register_word 0x33 7 0x00 rd rs1 rs2
encode_of (Mul rd rs1 rs2) = register_word 0x33 0 0x01 rd rs1 rs2
encode_of (Mulh rd rs1 rs2) = register_word 0x33 1 0x01 rd rs1 rs2
encode_of (Mulhsu rd rs1 rs2) = register_word 0x33 2 0x01 rd rs1 rs2
encode_of (Mulhu rd rs1 rs2) = register_word 0x33 3 0x01 rd rs1 rs2
encode_of (Div rd rs1 rs2) = register_word 0x33 4 0x01 rd rs1 rs2
encode_of (Divu rd rs1 rs2) = register_word 0x33 5 0x01 rd rs1 rs2
encode_of (Rem rd rs1 rs2) = register_word 0x33 6 0x01 rd rs1 rs2
encode_of (Remu rd rs1 rs2) = register_word 0x33 7 0x01 rd rs1 rs2
encode_of (Addw rd rs1 rs2) = register_word 0x3b 0 0x00 rd rs1 rs2
encode_of (Subw rd rs1 rs2) = register_word 0x3b 0 0x20 rd rs1 rs2
encode_of (Sllw rd rs1 rs2) = register_word 0x3b 1 0x00 rd rs1 rs2
encode_of (Srlw rd rs1 rs2) = register_word 0x3b 5 0x00 rd rs1 rs2
encode_of (Sraw rd rs1 rs2) = register_word 0x3b 5 0x20 rd rs1 rs2
encode_of (Mulw rd rs1 rs2) = register_word 0x3b 0 0x01 rd rs1 rs2
encode_of (Divw rd rs1 rs2) = register_word 0x3b 4 0x01 rd rs1 rs2
encode_of (Divuw rd rs1 rs2) = register_word 0x3b 5 0x01 rd rs1 rs2
encode_of (Remw rd rs1 rs2) = register_word 0x3b 6 0x01 rd rs1 rs2
encode_of (Remuw rd rs1 rs2) = register_word 0x3b 7 0x01 rd rs1 rs2
encode_of Fence = 0x0ff0000f
encode_of Ecall = 0x00000073
encode_of Ebreak = 0x00100073

-- a number of so many bits in two's complement, sign-extended to 64 bits
abbrev pub IsSigned : (bits imm : ℕ) → Type 0
IsSigned bits imm = (imm < 2 ^ 64) × ((imm + 2 ^ (bits - 1)) % 2 ^ 64 < 2 ^ bits)

-- what the fields of a format hold: a register is a number below 32
abbrev pub AreRegisterOperands : (rd rs1 rs2 : ℕ) → Type 0
AreRegisterOperands rd rs1 rs2 = (rd < 32) × (rs1 < 32) × (rs2 < 32)

abbrev pub AreImmediateOperands : (rd rs1 imm : ℕ) → Type 0
AreImmediateOperands rd rs1 imm = (rd < 32) × (rs1 < 32) × IsSigned 12 imm

abbrev pub AreShiftOperands : (rd rs1 amount : ℕ) → Type 0
AreShiftOperands rd rs1 amount = (rd < 32) × (rs1 < 32) × (amount < 64)

abbrev pub AreWordShiftOperands : (rd rs1 amount : ℕ) → Type 0
AreWordShiftOperands rd rs1 amount = (rd < 32) × (rs1 < 32) × (amount < 32)

abbrev pub AreStoreOperands : (rs1 rs2 imm : ℕ) → Type 0
AreStoreOperands rs1 rs2 imm = (rs1 < 32) × (rs2 < 32) × IsSigned 12 imm

abbrev pub AreBranchOperands : (rs1 rs2 imm : ℕ) → Type 0
AreBranchOperands rs1 rs2 imm = (rs1 < 32) × (rs2 < 32) × IsSigned 13 imm × (imm % 2 ≡ 0)

abbrev pub AreUpperOperands : (rd imm : ℕ) → Type 0
AreUpperOperands rd imm = (rd < 32) × IsSigned 32 imm × (imm % 2 ^ 12 ≡ 0)

abbrev pub AreJumpOperands : (rd imm : ℕ) → Type 0
AreJumpOperands rd imm = (rd < 32) × IsSigned 21 imm × (imm % 2 ≡ 0)

-- the registers are below 32 and the immediate is one that its field holds
abbrev pub IsEncodable : Insn → Type 0
IsEncodable (Lui rd imm) = AreUpperOperands rd imm
IsEncodable (Auipc rd imm) = AreUpperOperands rd imm
IsEncodable (Jal rd imm) = AreJumpOperands rd imm
IsEncodable (Jalr rd rs1 imm) = AreImmediateOperands rd rs1 imm
IsEncodable (Beq rs1 rs2 imm) = AreBranchOperands rs1 rs2 imm
IsEncodable (Bne rs1 rs2 imm) = AreBranchOperands rs1 rs2 imm
IsEncodable (Blt rs1 rs2 imm) = AreBranchOperands rs1 rs2 imm
IsEncodable (Bge rs1 rs2 imm) = AreBranchOperands rs1 rs2 imm
IsEncodable (Bltu rs1 rs2 imm) = AreBranchOperands rs1 rs2 imm
IsEncodable (Bgeu rs1 rs2 imm) = AreBranchOperands rs1 rs2 imm
IsEncodable (Lb rd rs1 imm) = AreImmediateOperands rd rs1 imm
IsEncodable (Lh rd rs1 imm) = AreImmediateOperands rd rs1 imm
IsEncodable (Lw rd rs1 imm) = AreImmediateOperands rd rs1 imm
IsEncodable (Ld rd rs1 imm) = AreImmediateOperands rd rs1 imm
IsEncodable (Lbu rd rs1 imm) = AreImmediateOperands rd rs1 imm
IsEncodable (Lhu rd rs1 imm) = AreImmediateOperands rd rs1 imm
IsEncodable (Lwu rd rs1 imm) = AreImmediateOperands rd rs1 imm
IsEncodable (Sb rs1 rs2 imm) = AreStoreOperands rs1 rs2 imm
IsEncodable (Sh rs1 rs2 imm) = AreStoreOperands rs1 rs2 imm
IsEncodable (Sw rs1 rs2 imm) = AreStoreOperands rs1 rs2 imm
IsEncodable (Sd rs1 rs2 imm) = AreStoreOperands rs1 rs2 imm
IsEncodable (Addi rd rs1 imm) = AreImmediateOperands rd rs1 imm
IsEncodable (Slti rd rs1 imm) = AreImmediateOperands rd rs1 imm
IsEncodable (Sltiu rd rs1 imm) = AreImmediateOperands rd rs1 imm
IsEncodable (Xori rd rs1 imm) = AreImmediateOperands rd rs1 imm
IsEncodable (Ori rd rs1 imm) = AreImmediateOperands rd rs1 imm
IsEncodable (Andi rd rs1 imm) = AreImmediateOperands rd rs1 imm
IsEncodable (Slli rd rs1 imm) = AreShiftOperands rd rs1 imm
IsEncodable (Srli rd rs1 imm) = AreShiftOperands rd rs1 imm
IsEncodable (Srai rd rs1 imm) = AreShiftOperands rd rs1 imm
IsEncodable (Addiw rd rs1 imm) = AreImmediateOperands rd rs1 imm
IsEncodable (Slliw rd rs1 imm) = AreWordShiftOperands rd rs1 imm
IsEncodable (Srliw rd rs1 imm) = AreWordShiftOperands rd rs1 imm
IsEncodable (Sraiw rd rs1 imm) = AreWordShiftOperands rd rs1 imm
IsEncodable (Add rd rs1 rs2) = AreRegisterOperands rd rs1 rs2
IsEncodable (Sub rd rs1 rs2) = AreRegisterOperands rd rs1 rs2
IsEncodable (Sll rd rs1 rs2) = AreRegisterOperands rd rs1 rs2
IsEncodable (Slt rd rs1 rs2) = AreRegisterOperands rd rs1 rs2
IsEncodable (Sltu rd rs1 rs2) = AreRegisterOperands rd rs1 rs2
IsEncodable (Xor rd rs1 rs2) = AreRegisterOperands rd rs1 rs2
IsEncodable (Srl rd rs1 rs2) = AreRegisterOperands rd rs1 rs2
IsEncodable (Sra rd rs1 rs2) = AreRegisterOperands rd rs1 rs2
IsEncodable (Or rd rs1 rs2) = AreRegisterOperands rd rs1 rs2
IsEncodable (And rd rs1 rs2) = AreRegisterOperands rd rs1 rs2
IsEncodable (Mul rd rs1 rs2) = AreRegisterOperands rd rs1 rs2
IsEncodable (Mulh rd rs1 rs2) = AreRegisterOperands rd rs1 rs2
IsEncodable (Mulhsu rd rs1 rs2) = AreRegisterOperands rd rs1 rs2
IsEncodable (Mulhu rd rs1 rs2) = AreRegisterOperands rd rs1 rs2
IsEncodable (Div rd rs1 rs2) = AreRegisterOperands rd rs1 rs2
IsEncodable (Divu rd rs1 rs2) = AreRegisterOperands rd rs1 rs2
IsEncodable (Rem rd rs1 rs2) = AreRegisterOperands rd rs1 rs2
IsEncodable (Remu rd rs1 rs2) = AreRegisterOperands rd rs1 rs2
IsEncodable (Addw rd rs1 rs2) = AreRegisterOperands rd rs1 rs2
IsEncodable (Subw rd rs1 rs2) = AreRegisterOperands rd rs1 rs2
IsEncodable (Sllw rd rs1 rs2) = AreRegisterOperands rd rs1 rs2
IsEncodable (Srlw rd rs1 rs2) = AreRegisterOperands rd rs1 rs2
IsEncodable (Sraw rd rs1 rs2) = AreRegisterOperands rd rs1 rs2
IsEncodable (Mulw rd rs1 rs2) = AreRegisterOperands rd rs1 rs2
IsEncodable (Divw rd rs1 rs2) = AreRegisterOperands rd rs1 rs2
IsEncodable (Divuw rd rs1 rs2) = AreRegisterOperands rd rs1 rs2
IsEncodable (Remw rd rs1 rs2) = AreRegisterOperands rd rs1 rs2
IsEncodable (Remuw rd rs1 rs2) = AreRegisterOperands rd rs1 rs2
IsEncodable Fence = Unit {0}
IsEncodable Ecall = Unit {0}
IsEncodable Ebreak = Unit {0}

-- the instruction can be encoded, and this is its word
pub record HasWord (w : ℕ) (i : Insn) : Type 0 where
  pub encodable : IsEncodable i
  pub word : encode_of i ≡ w
