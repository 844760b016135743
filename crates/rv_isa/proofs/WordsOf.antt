-- For each format: a word of it decodes to its row's instruction, and a word with the row's fixed fields is the word of what it decodes to.
use Rattle.std.proofs.Common.{◌≡◌, ℕ, ◌+◌, ◌*◌, ◌/◌, ◌%◌, ◌^◌, ◌<◌, arith, refl, ap, ◌∙◌}
use Rattle.std.specs.Prelude.{Some}
use Rattle.rv_isa.specs.declared.insn.Insn.{Insn}
use Rattle.rv_isa.specs.Encode.{register_word, immediate_word, shift_word, word_shift_word, store_word, branch_word, upper_word, jump_word, AreRegisterOperands, AreImmediateOperands, AreShiftOperands, AreWordShiftOperands, AreStoreOperands, AreBranchOperands, AreUpperOperands, AreJumpOperands}
use Rattle.rv_isa.specs.Decode.{opcode_of, rd_of, funct3_of, rs1_of, rs2_of, amount_of, funct6_of, funct7_of, extended, immediate_of, store_offset_of, branch_offset_of, upper_of, jump_offset_of, insn_by_fields, decode_of}
use Rattle.rv_isa.proofs.Extended.{extended-12, extended-13, extended-21, extended-32}

by-fields : (w opcode funct3 funct6 funct7 : ℕ) → opcode_of w ≡ opcode → funct3_of w ≡ funct3 → funct6_of w ≡ funct6 → funct7_of w ≡ funct7
    → decode_of w ≡ insn_by_fields opcode funct3 funct6 funct7 w
unfolding decode_of
by-fields w opcode funct3 funct6 funct7 e f g h = cc

two : (make : ℕ → ℕ → Insn) (a b c d : ℕ) → a ≡ c → b ≡ d → Some (make a b) ≡ Some (make c d)
two make a b c d e f = cc

three : (make : ℕ → ℕ → ℕ → Insn) (a b c x y z : ℕ) → a ≡ x → b ≡ y → c ≡ z → Some (make a b c) ≡ Some (make x y z)
three make a b c x y z e f g = cc

module _ (opcode funct3 : ℕ) (ho : opcode < 2 ^ 7) (h3 : funct3 < 2 ^ 3) where
  immediate-field : (rd rs1 imm : ℕ) → rd < 32 → rs1 < 32 → immediate_word opcode funct3 rd rs1 imm / 2 ^ 20 ≡ imm % 2 ^ 12
  immediate-field rd rs1 imm hd h1 = omega arith

  store-field : (rs1 rs2 imm : ℕ) → rs1 < 32 → rs2 < 32
      → 2 ^ 5 * (store_word opcode funct3 rs1 rs2 imm / 2 ^ 25) + store_word opcode funct3 rs1 rs2 imm / 2 ^ 7 % 2 ^ 5 ≡ imm % 2 ^ 12
  store-field rs1 rs2 imm h1 h2 = omega arith

  branch-field : (rs1 rs2 imm : ℕ) → rs1 < 32 → rs2 < 32 → imm % 2 ≡ 0
      → 2 ^ 12 * (branch_word opcode funct3 rs1 rs2 imm / 2 ^ 31) + 2 ^ 11 * (branch_word opcode funct3 rs1 rs2 imm / 2 ^ 7 % 2)
      + 2 ^ 5 * (branch_word opcode funct3 rs1 rs2 imm / 2 ^ 25 % 2 ^ 6) + 2 * (branch_word opcode funct3 rs1 rs2 imm / 2 ^ 8 % 2 ^ 4)
      ≡ imm % 2 ^ 13
  branch-field rs1 rs2 imm h1 h2 e = omega arith

module _ (opcode : ℕ) (ho : opcode < 2 ^ 7) where
  upper-field : (rd imm : ℕ) → rd < 32 → imm % 2 ^ 12 ≡ 0 → 2 ^ 12 * (upper_word opcode rd imm / 2 ^ 12) ≡ imm % 2 ^ 32
  upper-field rd imm hd e = omega arith

  jump-field : (rd imm : ℕ) → rd < 32 → imm % 2 ≡ 0
      → 2 ^ 20 * (jump_word opcode rd imm / 2 ^ 31) + 2 ^ 12 * (jump_word opcode rd imm / 2 ^ 12 % 2 ^ 8)
      + 2 ^ 11 * (jump_word opcode rd imm / 2 ^ 20 % 2) + 2 * (jump_word opcode rd imm / 2 ^ 21 % 2 ^ 10)
      ≡ imm % 2 ^ 21
  jump-field rd imm hd e = omega arith

module _ (make : ℕ → ℕ → ℕ → Insn) (opcode funct3 : ℕ) (ho : opcode < 2 ^ 7) (h3 : funct3 < 2 ^ 3) where
  pub register-decodes : (funct7 rd rs1 rs2 : ℕ) → funct7 < 2 ^ 7 → AreRegisterOperands rd rs1 rs2
      → ((w : ℕ) → insn_by_fields opcode funct3 (funct7 / 2) funct7 w ≡ Some (make (rd_of w) (rs1_of w) (rs2_of w)))
      → decode_of (register_word opcode funct3 funct7 rd rs1 rs2) ≡ Some (make rd rs1 rs2)
  register-decodes funct7 rd rs1 rs2 h7 h row =
      by-fields (register_word opcode funct3 funct7 rd rs1 rs2) opcode funct3 (funct7 / 2) funct7 (omega arith) (omega arith) (omega arith) (omega arith)
      ∙ row (register_word opcode funct3 funct7 rd rs1 rs2)
      ∙ three make _ _ _ rd rs1 rs2 (omega arith) (omega arith) (omega arith)

  pub immediate-decodes : (rd rs1 imm : ℕ) → AreImmediateOperands rd rs1 imm
      → ((funct7 w : ℕ) → insn_by_fields opcode funct3 (funct7 / 2) funct7 w ≡ Some (make (rd_of w) (rs1_of w) (immediate_of w)))
      → decode_of (immediate_word opcode funct3 rd rs1 imm) ≡ Some (make rd rs1 imm)
  immediate-decodes rd rs1 imm h row =
      by-fields (immediate_word opcode funct3 rd rs1 imm) opcode funct3 (imm / 2 ^ 5 % 2 ^ 7 / 2) (imm / 2 ^ 5 % 2 ^ 7) (omega arith) (omega arith) (omega arith) (omega arith)
      ∙ row (imm / 2 ^ 5 % 2 ^ 7) (immediate_word opcode funct3 rd rs1 imm)
      ∙ three make _ _ _ rd rs1 imm (omega arith) (omega arith)
      (ap (λ n. extended 12 n) (immediate-field opcode funct3 ho h3 rd rs1 imm h.0 h.1) ∙ extended-12 imm h.2)

  pub shift-decodes : (funct6 rd rs1 amount : ℕ) → funct6 < 2 ^ 6 → AreShiftOperands rd rs1 amount
      → ((funct7 w : ℕ) → insn_by_fields opcode funct3 funct6 funct7 w ≡ Some (make (rd_of w) (rs1_of w) (amount_of w)))
      → decode_of (shift_word opcode funct3 funct6 rd rs1 amount) ≡ Some (make rd rs1 amount)
  shift-decodes funct6 rd rs1 amount h6 h row =
      by-fields (shift_word opcode funct3 funct6 rd rs1 amount) opcode funct3 funct6 (2 * funct6 + amount / 2 ^ 5) (omega arith) (omega arith) (omega arith) (omega arith)
      ∙ row (2 * funct6 + amount / 2 ^ 5) (shift_word opcode funct3 funct6 rd rs1 amount)
      ∙ three make _ _ _ rd rs1 amount (omega arith) (omega arith) (omega arith)

  pub word_shift-decodes : (funct7 rd rs1 amount : ℕ) → funct7 < 2 ^ 7 → AreWordShiftOperands rd rs1 amount
      → ((funct6 w : ℕ) → insn_by_fields opcode funct3 funct6 funct7 w ≡ Some (make (rd_of w) (rs1_of w) (rs2_of w)))
      → decode_of (word_shift_word opcode funct3 funct7 rd rs1 amount) ≡ Some (make rd rs1 amount)
  word_shift-decodes funct7 rd rs1 amount h7 h row =
      by-fields (word_shift_word opcode funct3 funct7 rd rs1 amount) opcode funct3 (funct7 / 2) funct7 (omega arith) (omega arith) (omega arith) (omega arith)
      ∙ row (funct7 / 2) (word_shift_word opcode funct3 funct7 rd rs1 amount)
      ∙ three make _ _ _ rd rs1 amount (omega arith) (omega arith) (omega arith)

  pub store-decodes : (rs1 rs2 imm : ℕ) → AreStoreOperands rs1 rs2 imm
      → ((funct7 w : ℕ) → insn_by_fields opcode funct3 (funct7 / 2) funct7 w ≡ Some (make (rs1_of w) (rs2_of w) (store_offset_of w)))
      → decode_of (store_word opcode funct3 rs1 rs2 imm) ≡ Some (make rs1 rs2 imm)
  store-decodes rs1 rs2 imm h row =
      by-fields (store_word opcode funct3 rs1 rs2 imm) opcode funct3 (imm / 2 ^ 5 % 2 ^ 7 / 2) (imm / 2 ^ 5 % 2 ^ 7) (omega arith) (omega arith) (omega arith) (omega arith)
      ∙ row (imm / 2 ^ 5 % 2 ^ 7) (store_word opcode funct3 rs1 rs2 imm)
      ∙ three make _ _ _ rs1 rs2 imm (omega arith) (omega arith)
      (ap (λ n. extended 12 n) (store-field opcode funct3 ho h3 rs1 rs2 imm h.0 h.1) ∙ extended-12 imm h.2)

  pub branch-decodes : (rs1 rs2 imm : ℕ) → AreBranchOperands rs1 rs2 imm
      → ((funct7 w : ℕ) → insn_by_fields opcode funct3 (funct7 / 2) funct7 w ≡ Some (make (rs1_of w) (rs2_of w) (branch_offset_of w)))
      → decode_of (branch_word opcode funct3 rs1 rs2 imm) ≡ Some (make rs1 rs2 imm)
  branch-decodes rs1 rs2 imm h row =
      by-fields (branch_word opcode funct3 rs1 rs2 imm) opcode funct3 ((imm / 2 ^ 5 % 2 ^ 6 + 2 ^ 6 * (imm / 2 ^ 12 % 2)) / 2)
      (imm / 2 ^ 5 % 2 ^ 6 + 2 ^ 6 * (imm / 2 ^ 12 % 2)) (omega arith) (omega arith) (omega arith) (omega arith)
      ∙ row (imm / 2 ^ 5 % 2 ^ 6 + 2 ^ 6 * (imm / 2 ^ 12 % 2)) (branch_word opcode funct3 rs1 rs2 imm)
      ∙ three make _ _ _ rs1 rs2 imm (omega arith) (omega arith)
      (ap (λ n. extended 13 n) (branch-field opcode funct3 ho h3 rs1 rs2 imm h.0 h.1 h.3) ∙ extended-13 imm h.2)

module _ (make : ℕ → ℕ → Insn) (opcode : ℕ) (ho : opcode < 2 ^ 7) where
  pub upper-decodes : (rd imm : ℕ) → AreUpperOperands rd imm
      → ((funct3 funct6 funct7 w : ℕ) → insn_by_fields opcode funct3 funct6 funct7 w ≡ Some (make (rd_of w) (upper_of w)))
      → decode_of (upper_word opcode rd imm) ≡ Some (make rd imm)
  upper-decodes rd imm h row =
      by-fields (upper_word opcode rd imm) opcode (funct3_of (upper_word opcode rd imm)) (funct6_of (upper_word opcode rd imm)) (funct7_of (upper_word opcode rd imm)) (omega arith) refl refl refl
      ∙ row (funct3_of (upper_word opcode rd imm)) (funct6_of (upper_word opcode rd imm)) (funct7_of (upper_word opcode rd imm)) (upper_word opcode rd imm)
      ∙ two make _ _ rd imm (omega arith) (ap (λ n. extended 32 n) (upper-field opcode ho rd imm h.0 h.2) ∙ extended-32 imm h.1)

  pub jump-decodes : (rd imm : ℕ) → AreJumpOperands rd imm
      → ((funct3 funct6 funct7 w : ℕ) → insn_by_fields opcode funct3 funct6 funct7 w ≡ Some (make (rd_of w) (jump_offset_of w)))
      → decode_of (jump_word opcode rd imm) ≡ Some (make rd imm)
  jump-decodes rd imm h row =
      by-fields (jump_word opcode rd imm) opcode (funct3_of (jump_word opcode rd imm)) (funct6_of (jump_word opcode rd imm)) (funct7_of (jump_word opcode rd imm)) (omega arith) refl refl refl
      ∙ row (funct3_of (jump_word opcode rd imm)) (funct6_of (jump_word opcode rd imm)) (funct7_of (jump_word opcode rd imm)) (jump_word opcode rd imm)
      ∙ two make _ _ rd imm (omega arith) (ap (λ n. extended 21 n) (jump-field opcode ho rd imm h.0 h.2) ∙ extended-21 imm h.1)
