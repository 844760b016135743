-- The instruction of a word. It is the one instruction whose word this is, where there is one; the crate's laws say so.
use Rattle.std.specs.Prelude.{ℕ, ◌+◌, ◌-◌, ◌*◌, ◌/◌, ◌%◌, ◌^◌, ◌==◌, nat_lt, if◌then◌else◌, Option, Some, None}
use Rattle.rv_isa.specs.declared.insn.Insn.{Insn}
use Rattle.rv_isa.specs.declared.insn.Insn.TheVariants.{Lui, Auipc, Jal, Jalr, Beq, Bne, Blt, Bge, Bltu, Bgeu, Lb, Lh, Lw, Ld, Lbu, Lhu, Lwu, Sb, Sh, Sw, Sd, Addi, Slti, Sltiu, Xori, Ori, Andi, Slli, Srli, Srai, Addiw, Slliw, Srliw, Sraiw, Add, Sub, Sll, Slt, Sltu, Xor, Srl, Sra, Or, And, Mul, Mulh, Mulhsu, Mulhu, Div, Divu, Rem, Remu, Addw, Subw, Sllw, Srlw, Sraw, Mulw, Divw, Divuw, Remw, Remuw, Fence, Ecall, Ebreak}

-- the fields of a word
abbrev pub opcode_of : ℕ → ℕ
opcode_of w = w % 2 ^ 7

abbrev pub rd_of : ℕ → ℕ
rd_of w = w / 2 ^ 7 % 2 ^ 5

abbrev pub funct3_of : ℕ → ℕ
funct3_of w = w / 2 ^ 12 % 2 ^ 3

abbrev pub rs1_of : ℕ → ℕ
rs1_of w = w / 2 ^ 15 % 2 ^ 5

abbrev pub rs2_of : ℕ → ℕ
rs2_of w = w / 2 ^ 20 % 2 ^ 5

abbrev pub amount_of : ℕ → ℕ
amount_of w = w / 2 ^ 20 % 2 ^ 6

abbrev pub funct6_of : ℕ → ℕ
funct6_of w = w / 2 ^ 26

abbrev pub funct7_of : ℕ → ℕ
funct7_of w = w / 2 ^ 25

-- a field of so many bits as two's complement, in 64 bits
abbrev pub extended : (bits field : ℕ) → ℕ
extended bits field = if nat_lt field (2 ^ (bits - 1)) then field else field + (2 ^ 64 - 2 ^ bits)

-- the immediates, put together from their bits
abbrev pub immediate_of : ℕ → ℕ
immediate_of w = extended 12 (w / 2 ^ 20)

abbrev pub store_offset_of : ℕ → ℕ
store_offset_of w = extended 12 (2 ^ 5 * (w / 2 ^ 25) + w / 2 ^ 7 % 2 ^ 5)

abbrev pub branch_offset_of : ℕ → ℕ
branch_offset_of w =
    extended 13 (2 ^ 12 * (w / 2 ^ 31) + 2 ^ 11 * (w / 2 ^ 7 % 2) + 2 ^ 5 * (w / 2 ^ 25 % 2 ^ 6) + 2 * (w / 2 ^ 8 % 2 ^ 4))

abbrev pub upper_of : ℕ → ℕ
upper_of w = extended 32 (2 ^ 12 * (w / 2 ^ 12))

abbrev pub jump_offset_of : ℕ → ℕ
jump_offset_of w =
    extended 21 (2 ^ 20 * (w / 2 ^ 31) + 2 ^ 12 * (w / 2 ^ 12 % 2 ^ 8) + 2 ^ 11 * (w / 2 ^ 20 % 2) + 2 * (w / 2 ^ 21 % 2 ^ 10))

-- a jump to a register's place
unfoldable pub jump_register_of : (funct3 w : ℕ) → Option Insn
jump_register_of funct3 w = if funct3 == 0 then Some (Jalr (rd_of w) (rs1_of w) (immediate_of w)) else None

-- conditional branches
unfoldable pub branch_of : (funct3 w : ℕ) → Option Insn
branch_of funct3 w =
    if funct3 == 0 then Some (Beq (rs1_of w) (rs2_of w) (branch_offset_of w))
    else if funct3 == 1 then Some (Bne (rs1_of w) (rs2_of w) (branch_offset_of w))
    else if funct3 == 4 then Some (Blt (rs1_of w) (rs2_of w) (branch_offset_of w))
    else if funct3 == 5 then Some (Bge (rs1_of w) (rs2_of w) (branch_offset_of w))
    else if funct3 == 6 then Some (Bltu (rs1_of w) (rs2_of w) (branch_offset_of w))
    else if funct3 == 7 then Some (Bgeu (rs1_of w) (rs2_of w) (branch_offset_of w))
    else None

-- loads
unfoldable pub load_of : (funct3 w : ℕ) → Option Insn
load_of funct3 w =
    if funct3 == 0 then Some (Lb (rd_of w) (rs1_of w) (immediate_of w))
    else if funct3 == 1 then Some (Lh (rd_of w) (rs1_of w) (immediate_of w))
    else if funct3 == 2 then Some (Lw (rd_of w) (rs1_of w) (immediate_of w))
    else if funct3 == 3 then Some (Ld (rd_of w) (rs1_of w) (immediate_of w))
    else if funct3 == 4 then Some (Lbu (rd_of w) (rs1_of w) (immediate_of w))
    else if funct3 == 5 then Some (Lhu (rd_of w) (rs1_of w) (immediate_of w))
    else if funct3 == 6 then Some (Lwu (rd_of w) (rs1_of w) (immediate_of w))
    else None

-- stores
unfoldable pub store_of : (funct3 w : ℕ) → Option Insn
store_of funct3 w =
    if funct3 == 0 then Some (Sb (rs1_of w) (rs2_of w) (store_offset_of w))
    else if funct3 == 1 then Some (Sh (rs1_of w) (rs2_of w) (store_offset_of w))
    else if funct3 == 2 then Some (Sw (rs1_of w) (rs2_of w) (store_offset_of w))
    else if funct3 == 3 then Some (Sd (rs1_of w) (rs2_of w) (store_offset_of w))
    else None

-- shifts by an amount
unfoldable pub shift_of : (funct3 funct6 w : ℕ) → Option Insn
shift_of funct3 funct6 w =
    if funct3 == 1 then (if funct6 == 0 then Some (Slli (rd_of w) (rs1_of w) (amount_of w)) else None)
    else if funct3 == 5 then
    (if funct6 == 0 then Some (Srli (rd_of w) (rs1_of w) (amount_of w))
    else if funct6 == 0x10 then Some (Srai (rd_of w) (rs1_of w) (amount_of w))
    else None)
    else None

-- a register and an immediate
unfoldable pub immediate_insn_of : (funct3 funct6 w : ℕ) → Option Insn
immediate_insn_of funct3 funct6 w =
    if funct3 == 0 then Some (Addi (rd_of w) (rs1_of w) (immediate_of w))
    else if funct3 == 2 then Some (Slti (rd_of w) (rs1_of w) (immediate_of w))
    else if funct3 == 3 then Some (Sltiu (rd_of w) (rs1_of w) (immediate_of w))
    else if funct3 == 4 then Some (Xori (rd_of w) (rs1_of w) (immediate_of w))
    else if funct3 == 6 then Some (Ori (rd_of w) (rs1_of w) (immediate_of w))
    else if funct3 == 7 then Some (Andi (rd_of w) (rs1_of w) (immediate_of w))
    else shift_of funct3 funct6 w

-- shifts of words by an amount
unfoldable pub word_shift_of : (funct3 funct7 w : ℕ) → Option Insn
word_shift_of funct3 funct7 w =
    if funct3 == 1 then (if funct7 == 0 then Some (Slliw (rd_of w) (rs1_of w) (rs2_of w)) else None)
    else if funct3 == 5 then
    (if funct7 == 0 then Some (Srliw (rd_of w) (rs1_of w) (rs2_of w))
    else if funct7 == 0x20 then Some (Sraiw (rd_of w) (rs1_of w) (rs2_of w))
    else None)
    else None

-- the same on words of 32 bits
unfoldable pub word_immediate_of : (funct3 funct7 w : ℕ) → Option Insn
word_immediate_of funct3 funct7 w =
    if funct3 == 0 then Some (Addiw (rd_of w) (rs1_of w) (immediate_of w))
    else word_shift_of funct3 funct7 w

-- two registers: funct7 0
unfoldable pub base_of : (funct3 w : ℕ) → Option Insn
base_of funct3 w =
    if funct3 == 0 then Some (Add (rd_of w) (rs1_of w) (rs2_of w))
    else if funct3 == 1 then Some (Sll (rd_of w) (rs1_of w) (rs2_of w))
    else if funct3 == 2 then Some (Slt (rd_of w) (rs1_of w) (rs2_of w))
    else if funct3 == 3 then Some (Sltu (rd_of w) (rs1_of w) (rs2_of w))
    else if funct3 == 4 then Some (Xor (rd_of w) (rs1_of w) (rs2_of w))
    else if funct3 == 5 then Some (Srl (rd_of w) (rs1_of w) (rs2_of w))
    else if funct3 == 6 then Some (Or (rd_of w) (rs1_of w) (rs2_of w))
    else if funct3 == 7 then Some (And (rd_of w) (rs1_of w) (rs2_of w))
    else None

-- two registers: funct7 0x20
unfoldable pub alternate_of : (funct3 w : ℕ) → Option Insn
alternate_of funct3 w =
    if funct3 == 0 then Some (Sub (rd_of w) (rs1_of w) (rs2_of w))
    else if funct3 == 5 then Some (Sra (rd_of w) (rs1_of w) (rs2_of w))
    else None

-- two registers: funct7 1
unfoldable pub product_of : (funct3 w : ℕ) → Option Insn
product_of funct3 w =
    if funct3 == 0 then Some (Mul (rd_of w) (rs1_of w) (rs2_of w))
    else if funct3 == 1 then Some (Mulh (rd_of w) (rs1_of w) (rs2_of w))
    else if funct3 == 2 then Some (Mulhsu (rd_of w) (rs1_of w) (rs2_of w))
    else if funct3 == 3 then Some (Mulhu (rd_of w) (rs1_of w) (rs2_of w))
    else if funct3 == 4 then Some (Div (rd_of w) (rs1_of w) (rs2_of w))
    else if funct3 == 5 then Some (Divu (rd_of w) (rs1_of w) (rs2_of w))
    else if funct3 == 6 then Some (Rem (rd_of w) (rs1_of w) (rs2_of w))
    else if funct3 == 7 then Some (Remu (rd_of w) (rs1_of w) (rs2_of w))
    else None

-- two registers
unfoldable pub register_insn_of : (funct3 funct7 w : ℕ) → Option Insn
register_insn_of funct3 funct7 w =
    if funct7 == 0 then base_of funct3 w
    else if funct7 == 0x20 then alternate_of funct3 w
    else if funct7 == 1 then product_of funct3 w
    else None

-- two registers, on words of 32 bits: funct7 0
unfoldable pub word_base_of : (funct3 w : ℕ) → Option Insn
word_base_of funct3 w =
    if funct3 == 0 then Some (Addw (rd_of w) (rs1_of w) (rs2_of w))
    else if funct3 == 1 then Some (Sllw (rd_of w) (rs1_of w) (rs2_of w))
    else if funct3 == 5 then Some (Srlw (rd_of w) (rs1_of w) (rs2_of w))
    else None

-- two registers, on words of 32 bits: funct7 0x20
unfoldable pub word_alternate_of : (funct3 w : ℕ) → Option Insn
word_alternate_of funct3 w =
    if funct3 == 0 then Some (Subw (rd_of w) (rs1_of w) (rs2_of w))
    else if funct3 == 5 then Some (Sraw (rd_of w) (rs1_of w) (rs2_of w))
    else None

-- two registers, on words of 32 bits: funct7 1
unfoldable pub word_product_of : (funct3 w : ℕ) → Option Insn
word_product_of funct3 w =
    if funct3 == 0 then Some (Mulw (rd_of w) (rs1_of w) (rs2_of w))
    else if funct3 == 4 then Some (Divw (rd_of w) (rs1_of w) (rs2_of w))
    else if funct3 == 5 then Some (Divuw (rd_of w) (rs1_of w) (rs2_of w))
    else if funct3 == 6 then Some (Remw (rd_of w) (rs1_of w) (rs2_of w))
    else if funct3 == 7 then Some (Remuw (rd_of w) (rs1_of w) (rs2_of w))
    else None

-- two registers, on words of 32 bits
unfoldable pub word_register_insn_of : (funct3 funct7 w : ℕ) → Option Insn
word_register_insn_of funct3 funct7 w =
    if funct7 == 0 then word_base_of funct3 w
    else if funct7 == 0x20 then word_alternate_of funct3 w
    else if funct7 == 1 then word_product_of funct3 w
    else None

-- the words with no operands
unfoldable pub whole_word_of : ℕ → Option Insn
whole_word_of w =
    if w == 0x0ff0000f then Some Fence
    else if w == 0x00000073 then Some Ecall
    else if w == 0x00100073 then Some Ebreak
    else None

-- the instruction by the word's fixed fields
unfoldable pub insn_by_fields : (opcode funct3 funct6 funct7 w : ℕ) → Option Insn
insn_by_fields opcode funct3 funct6 funct7 w =
    if opcode == 0x37 then Some (Lui (rd_of w) (upper_of w))
    else if opcode == 0x17 then Some (Auipc (rd_of w) (upper_of w))
    else if opcode == 0x6f then Some (Jal (rd_of w) (jump_offset_of w))
    else if opcode == 0x67 then jump_register_of funct3 w
    else if opcode == 0x63 then branch_of funct3 w
    else if opcode == 0x03 then load_of funct3 w
    else if opcode == 0x23 then store_of funct3 w
    else if opcode == 0x13 then immediate_insn_of funct3 funct6 w
    else if opcode == 0x1b then word_immediate_of funct3 funct7 w
    else if opcode == 0x33 then register_insn_of funct3 funct7 w
    else if opcode == 0x3b then word_register_insn_of funct3 funct7 w
    else whole_word_of w

-- the instruction of a word of 32 bits
unfoldable pub decode_of : ℕ → Option Insn
decode_of w = insn_by_fields (opcode_of w) (funct3_of w) (funct6_of w) (funct7_of w) w
