-- A word with a row's fixed fields is the word of the instruction that its other fields give.
use Rattle.std.proofs.Common.{◌≡◌, ℕ, ◌+◌, ◌*◌, ◌/◌, ◌%◌, ◌^◌, ◌<◌, arith}
use Rattle.std.proofs.lemmas.Bool.Decides.{nat_tests}
use Rattle.rv_isa.specs.Encode.{IsSigned, register_word, immediate_word, shift_word, word_shift_word, store_word, branch_word, upper_word, jump_word, AreRegisterOperands, AreImmediateOperands, AreShiftOperands, AreWordShiftOperands, AreStoreOperands, AreBranchOperands, AreUpperOperands, AreJumpOperands}
use Rattle.rv_isa.specs.Decode.{opcode_of, rd_of, funct3_of, rs1_of, rs2_of, amount_of, funct6_of, funct7_of, extended, immediate_of, store_offset_of, branch_offset_of, upper_of, jump_offset_of}

pub signed-12 : (field : ℕ) → field < 2 ^ 12 → IsSigned 12 (extended 12 field)
signed-12 field h = grind (arith, nat_tests)

pub low-12 : (field : ℕ) → field < 2 ^ 12 → extended 12 field % 2 ^ 12 ≡ field
low-12 field h = grind (arith, nat_tests)

pub signed-13 : (field : ℕ) → field < 2 ^ 13 → IsSigned 13 (extended 13 field)
signed-13 field h = grind (arith, nat_tests)

pub low-13 : (field : ℕ) → field < 2 ^ 13 → extended 13 field % 2 ^ 13 ≡ field
low-13 field h = grind (arith, nat_tests)

pub signed-21 : (field : ℕ) → field < 2 ^ 21 → IsSigned 21 (extended 21 field)
signed-21 field h = grind (arith, nat_tests)

pub low-21 : (field : ℕ) → field < 2 ^ 21 → extended 21 field % 2 ^ 21 ≡ field
low-21 field h = grind (arith, nat_tests)

pub signed-32 : (field : ℕ) → field < 2 ^ 32 → IsSigned 32 (extended 32 field)
signed-32 field h = grind (arith, nat_tests)

pub low-32 : (field : ℕ) → field < 2 ^ 32 → extended 32 field % 2 ^ 32 ≡ field
low-32 field h = grind (arith, nat_tests)

module _ (w opcode funct3 : ℕ) (h : w < 2 ^ 32) (ho : opcode_of w ≡ opcode) (h3 : funct3_of w ≡ funct3) where
  pub register-operands : AreRegisterOperands (rd_of w) (rs1_of w) (rs2_of w)
  register-operands = (omega arith, omega arith, omega arith)

  pub register-encodes : (funct7 : ℕ) → funct7_of w ≡ funct7 → register_word opcode funct3 funct7 (rd_of w) (rs1_of w) (rs2_of w) ≡ w
  register-encodes funct7 h7 = omega arith

  pub word_shift-operands : AreWordShiftOperands (rd_of w) (rs1_of w) (rs2_of w)
  word_shift-operands = (omega arith, omega arith, omega arith)

  pub word_shift-encodes : (funct7 : ℕ) → funct7_of w ≡ funct7 → word_shift_word opcode funct3 funct7 (rd_of w) (rs1_of w) (rs2_of w) ≡ w
  word_shift-encodes funct7 h7 = omega arith

  pub shift-operands : AreShiftOperands (rd_of w) (rs1_of w) (amount_of w)
  shift-operands = (omega arith, omega arith, omega arith)

  pub shift-encodes : (funct6 : ℕ) → funct6_of w ≡ funct6 → shift_word opcode funct3 funct6 (rd_of w) (rs1_of w) (amount_of w) ≡ w
  shift-encodes funct6 h6 = omega arith

  pub immediate-operands : AreImmediateOperands (rd_of w) (rs1_of w) (immediate_of w)
  immediate-operands = (omega arith, omega arith, signed-12 (w / 2 ^ 20) (omega arith))

  -- the low bits of the immediate, as a variable, are the field
  immediate-back : (imm : ℕ) → imm % 2 ^ 12 ≡ w / 2 ^ 20 → immediate_word opcode funct3 (rd_of w) (rs1_of w) imm ≡ w
  immediate-back imm e = omega arith

  pub immediate-encodes : immediate_word opcode funct3 (rd_of w) (rs1_of w) (immediate_of w) ≡ w
  immediate-encodes = immediate-back (immediate_of w) (low-12 (w / 2 ^ 20) (omega arith))

  pub store-operands : AreStoreOperands (rs1_of w) (rs2_of w) (store_offset_of w)
  store-operands = (omega arith, omega arith, signed-12 (2 ^ 5 * (w / 2 ^ 25) + w / 2 ^ 7 % 2 ^ 5) (omega arith))

  store-back : (imm : ℕ) → imm % 2 ^ 12 ≡ 2 ^ 5 * (w / 2 ^ 25) + w / 2 ^ 7 % 2 ^ 5 → store_word opcode funct3 (rs1_of w) (rs2_of w) imm ≡ w
  store-back imm e = omega arith

  pub store-encodes : store_word opcode funct3 (rs1_of w) (rs2_of w) (store_offset_of w) ≡ w
  store-encodes = store-back (store_offset_of w) (low-12 (2 ^ 5 * (w / 2 ^ 25) + w / 2 ^ 7 % 2 ^ 5) (omega arith))

  branch-back : (imm : ℕ)
      → imm % 2 ^ 13 ≡ 2 ^ 12 * (w / 2 ^ 31) + 2 ^ 11 * (w / 2 ^ 7 % 2) + 2 ^ 5 * (w / 2 ^ 25 % 2 ^ 6) + 2 * (w / 2 ^ 8 % 2 ^ 4)
      → (branch_word opcode funct3 (rs1_of w) (rs2_of w) imm ≡ w) × (imm % 2 ≡ 0)
  branch-back imm e = (omega arith, omega arith)

  branch-low : branch_offset_of w % 2 ^ 13 ≡ 2 ^ 12 * (w / 2 ^ 31) + 2 ^ 11 * (w / 2 ^ 7 % 2) + 2 ^ 5 * (w / 2 ^ 25 % 2 ^ 6) + 2 * (w / 2 ^ 8 % 2 ^ 4)
  branch-low = low-13 (2 ^ 12 * (w / 2 ^ 31) + 2 ^ 11 * (w / 2 ^ 7 % 2) + 2 ^ 5 * (w / 2 ^ 25 % 2 ^ 6) + 2 * (w / 2 ^ 8 % 2 ^ 4)) (omega arith)

  pub branch-encodes : branch_word opcode funct3 (rs1_of w) (rs2_of w) (branch_offset_of w) ≡ w
  branch-encodes = (branch-back (branch_offset_of w) branch-low).0

  pub branch-operands : AreBranchOperands (rs1_of w) (rs2_of w) (branch_offset_of w)
  branch-operands = (
    omega arith,
    omega arith,
    signed-13 (2 ^ 12 * (w / 2 ^ 31) + 2 ^ 11 * (w / 2 ^ 7 % 2) + 2 ^ 5 * (w / 2 ^ 25 % 2 ^ 6) + 2 * (w / 2 ^ 8 % 2 ^ 4)) (omega arith),
    (branch-back (branch_offset_of w) branch-low).1,
  )

module _ (w opcode : ℕ) (h : w < 2 ^ 32) (ho : opcode_of w ≡ opcode) where
  upper-back : (imm : ℕ) → imm % 2 ^ 32 ≡ 2 ^ 12 * (w / 2 ^ 12) → (upper_word opcode (rd_of w) imm ≡ w) × (imm % 2 ^ 12 ≡ 0)
  upper-back imm e = (omega arith, omega arith)

  upper-low : upper_of w % 2 ^ 32 ≡ 2 ^ 12 * (w / 2 ^ 12)
  upper-low = low-32 (2 ^ 12 * (w / 2 ^ 12)) (omega arith)

  pub upper-encodes : upper_word opcode (rd_of w) (upper_of w) ≡ w
  upper-encodes = (upper-back (upper_of w) upper-low).0

  pub upper-operands : AreUpperOperands (rd_of w) (upper_of w)
  upper-operands = (omega arith, signed-32 (2 ^ 12 * (w / 2 ^ 12)) (omega arith), (upper-back (upper_of w) upper-low).1)

  jump-back : (imm : ℕ)
      → imm % 2 ^ 21 ≡ 2 ^ 20 * (w / 2 ^ 31) + 2 ^ 12 * (w / 2 ^ 12 % 2 ^ 8) + 2 ^ 11 * (w / 2 ^ 20 % 2) + 2 * (w / 2 ^ 21 % 2 ^ 10)
      → (jump_word opcode (rd_of w) imm ≡ w) × (imm % 2 ≡ 0)
  jump-back imm e = (omega arith, omega arith)

  jump-low : jump_offset_of w % 2 ^ 21 ≡ 2 ^ 20 * (w / 2 ^ 31) + 2 ^ 12 * (w / 2 ^ 12 % 2 ^ 8) + 2 ^ 11 * (w / 2 ^ 20 % 2) + 2 * (w / 2 ^ 21 % 2 ^ 10)
  jump-low = low-21 (2 ^ 20 * (w / 2 ^ 31) + 2 ^ 12 * (w / 2 ^ 12 % 2 ^ 8) + 2 ^ 11 * (w / 2 ^ 20 % 2) + 2 * (w / 2 ^ 21 % 2 ^ 10)) (omega arith)

  pub jump-encodes : jump_word opcode (rd_of w) (jump_offset_of w) ≡ w
  jump-encodes = (jump-back (jump_offset_of w) jump-low).0

  pub jump-operands : AreJumpOperands (rd_of w) (jump_offset_of w)
  jump-operands = (
    omega arith,
    signed-21 (2 ^ 20 * (w / 2 ^ 31) + 2 ^ 12 * (w / 2 ^ 12 % 2 ^ 8) + 2 ^ 11 * (w / 2 ^ 20 % 2) + 2 * (w / 2 ^ 21 % 2 ^ 10)) (omega arith),
    (jump-back (jump_offset_of w) jump-low).1,
  )
