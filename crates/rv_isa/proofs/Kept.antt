-- A word that decodes is the word of what it decodes to, which can be encoded.
use Rattle.std.proofs.Common.{◌≡◌, ℕ, ◌^◌, ◌<◌, ◌==◌, Bool, true, false, refl, sym, subst, if◌then◌else◌}
use Rattle.std.specs.Prelude.{Option, Some, None}
use Rattle.std.proofs.lemmas.Bool.{eqb-true}
use Rattle.rv_isa.specs.declared.insn.Insn.{Insn}
use Rattle.rv_isa.specs.declared.insn.Insn.TheVariants.{Lui, Auipc, Jal, Jalr, Beq, Bne, Blt, Bge, Bltu, Bgeu, Lb, Lh, Lw, Ld, Lbu, Lhu, Lwu, Sb, Sh, Sw, Sd, Addi, Slti, Sltiu, Xori, Ori, Andi, Slli, Srli, Srai, Addiw, Slliw, Srliw, Sraiw, Add, Sub, Sll, Slt, Sltu, Xor, Srl, Sra, Or, And, Mul, Mulh, Mulhsu, Mulhu, Div, Divu, Rem, Remu, Addw, Subw, Sllw, Srlw, Sraw, Mulw, Divw, Divuw, Remw, Remuw, Fence, Ecall, Ebreak}
use Rattle.rv_isa.specs.Encode.{IsEncodable, HasWord, encode_of}
use Rattle.rv_isa.specs.Decode.{opcode_of, rd_of, funct3_of, rs1_of, rs2_of, amount_of, funct6_of, funct7_of, immediate_of, store_offset_of, branch_offset_of, upper_of, jump_offset_of, jump_register_of, branch_of, load_of, store_of, shift_of, immediate_insn_of, word_shift_of, word_immediate_of, base_of, alternate_of, product_of, register_insn_of, word_base_of, word_alternate_of, word_product_of, word_register_insn_of, whole_word_of, insn_by_fields, decode_of}
use Rattle.rv_isa.proofs.Back.{upper-operands, upper-encodes, jump-operands, jump-encodes, immediate-operands, immediate-encodes, branch-operands, branch-encodes, store-operands, store-encodes, shift-operands, shift-encodes, word_shift-operands, word_shift-encodes, register-operands, register-encodes}

-- where there is an instruction, it has this word
pub record Kept (w : ℕ) (o : Option Insn) : Type 0 where
  pub kept : (i : Insn) → o ≡ Some i → HasWord w i

nothing : (w : ℕ) → Kept w None
nothing w = record { kept = λ i e. cc }

same : (i j : Insn) → Some i ≡ Some j → i ≡ j
same i j e = cc

row : (w : ℕ) (i : Insn) → IsEncodable i → encode_of i ≡ w → Kept w (Some i)
row w i h e = record { kept = λ j q. subst (λ (k : Insn). HasWord w k) (same i j q) (record { encodable = h; word = e }) }

by_test : (w : ℕ) (b : Bool) (x y : Option Insn) → (b ≡ true → Kept w x) → Kept w y → Kept w (if b then x else y)
by_test w true x y p q = p refl
by_test w false x y p q = q

-- a choice by a fixed field
choice : (w field value : ℕ) (x y : Option Insn) → (field ≡ value → Kept w x) → Kept w y → Kept w (if field == value then x else y)
choice w field value x y p q = by_test w (field == value) x y (λ e. p (eqb-true field value e)) q

jump_register : (w : ℕ) → w < 2 ^ 32 → opcode_of w ≡ 0x67 → Kept w (jump_register_of (funct3_of w) w)
unfolding jump_register_of encode_of
jump_register w h ho = choice w _ 0 _ _ (λ f3. row w (Jalr (rd_of w) (rs1_of w) (immediate_of w)) (immediate-operands w 0x67 0 h ho f3) (immediate-encodes w 0x67 0 h ho f3)) (nothing w)

branch : (w : ℕ) → w < 2 ^ 32 → opcode_of w ≡ 0x63 → Kept w (branch_of (funct3_of w) w)
unfolding branch_of encode_of
branch w h ho =
    choice w _ 0 _ _ (λ f3. row w (Beq (rs1_of w) (rs2_of w) (branch_offset_of w)) (branch-operands w 0x63 0 h ho f3) (branch-encodes w 0x63 0 h ho f3)) (
    choice w _ 1 _ _ (λ f3. row w (Bne (rs1_of w) (rs2_of w) (branch_offset_of w)) (branch-operands w 0x63 1 h ho f3) (branch-encodes w 0x63 1 h ho f3)) (
    choice w _ 4 _ _ (λ f3. row w (Blt (rs1_of w) (rs2_of w) (branch_offset_of w)) (branch-operands w 0x63 4 h ho f3) (branch-encodes w 0x63 4 h ho f3)) (
    choice w _ 5 _ _ (λ f3. row w (Bge (rs1_of w) (rs2_of w) (branch_offset_of w)) (branch-operands w 0x63 5 h ho f3) (branch-encodes w 0x63 5 h ho f3)) (
    choice w _ 6 _ _ (λ f3. row w (Bltu (rs1_of w) (rs2_of w) (branch_offset_of w)) (branch-operands w 0x63 6 h ho f3) (branch-encodes w 0x63 6 h ho f3)) (
    choice w _ 7 _ _ (λ f3. row w (Bgeu (rs1_of w) (rs2_of w) (branch_offset_of w)) (branch-operands w 0x63 7 h ho f3) (branch-encodes w 0x63 7 h ho f3)) (
    nothing w))))))

load : (w : ℕ) → w < 2 ^ 32 → opcode_of w ≡ 0x03 → Kept w (load_of (funct3_of w) w)
unfolding load_of encode_of
load w h ho =
    choice w _ 0 _ _ (λ f3. row w (Lb (rd_of w) (rs1_of w) (immediate_of w)) (immediate-operands w 0x03 0 h ho f3) (immediate-encodes w 0x03 0 h ho f3)) (
    choice w _ 1 _ _ (λ f3. row w (Lh (rd_of w) (rs1_of w) (immediate_of w)) (immediate-operands w 0x03 1 h ho f3) (immediate-encodes w 0x03 1 h ho f3)) (
    choice w _ 2 _ _ (λ f3. row w (Lw (rd_of w) (rs1_of w) (immediate_of w)) (immediate-operands w 0x03 2 h ho f3) (immediate-encodes w 0x03 2 h ho f3)) (
    choice w _ 3 _ _ (λ f3. row w (Ld (rd_of w) (rs1_of w) (immediate_of w)) (immediate-operands w 0x03 3 h ho f3) (immediate-encodes w 0x03 3 h ho f3)) (
    choice w _ 4 _ _ (λ f3. row w (Lbu (rd_of w) (rs1_of w) (immediate_of w)) (immediate-operands w 0x03 4 h ho f3) (immediate-encodes w 0x03 4 h ho f3)) (
    choice w _ 5 _ _ (λ f3. row w (Lhu (rd_of w) (rs1_of w) (immediate_of w)) (immediate-operands w 0x03 5 h ho f3) (immediate-encodes w 0x03 5 h ho f3)) (
    choice w _ 6 _ _ (λ f3. row w (Lwu (rd_of w) (rs1_of w) (immediate_of w)) (immediate-operands w 0x03 6 h ho f3) (immediate-encodes w 0x03 6 h ho f3)) (
    nothing w)))))))

store : (w : ℕ) → w < 2 ^ 32 → opcode_of w ≡ 0x23 → Kept w (store_of (funct3_of w) w)
unfolding store_of encode_of
store w h ho =
    choice w _ 0 _ _ (λ f3. row w (Sb (rs1_of w) (rs2_of w) (store_offset_of w)) (store-operands w 0x23 0 h ho f3) (store-encodes w 0x23 0 h ho f3)) (
    choice w _ 1 _ _ (λ f3. row w (Sh (rs1_of w) (rs2_of w) (store_offset_of w)) (store-operands w 0x23 1 h ho f3) (store-encodes w 0x23 1 h ho f3)) (
    choice w _ 2 _ _ (λ f3. row w (Sw (rs1_of w) (rs2_of w) (store_offset_of w)) (store-operands w 0x23 2 h ho f3) (store-encodes w 0x23 2 h ho f3)) (
    choice w _ 3 _ _ (λ f3. row w (Sd (rs1_of w) (rs2_of w) (store_offset_of w)) (store-operands w 0x23 3 h ho f3) (store-encodes w 0x23 3 h ho f3)) (
    nothing w))))

shift : (w : ℕ) → w < 2 ^ 32 → opcode_of w ≡ 0x13 → Kept w (shift_of (funct3_of w) (funct6_of w) w)
unfolding shift_of encode_of
shift w h ho =
    choice w _ 1 _ _ (λ f3. choice w _ 0x00 _ _ (λ f7. row w (Slli (rd_of w) (rs1_of w) (amount_of w)) (shift-operands w 0x13 1 h ho f3) (shift-encodes w 0x13 1 h ho f3 0x00 f7)) (nothing w)) (
    choice w _ 5 _ _ (λ f3.
    choice w _ 0x00 _ _ (λ f7. row w (Srli (rd_of w) (rs1_of w) (amount_of w)) (shift-operands w 0x13 5 h ho f3) (shift-encodes w 0x13 5 h ho f3 0x00 f7)) (
    choice w _ 0x10 _ _ (λ f7. row w (Srai (rd_of w) (rs1_of w) (amount_of w)) (shift-operands w 0x13 5 h ho f3) (shift-encodes w 0x13 5 h ho f3 0x10 f7)) (
    nothing w))) (
    nothing w))

immediate_insn : (w : ℕ) → w < 2 ^ 32 → opcode_of w ≡ 0x13 → Kept w (immediate_insn_of (funct3_of w) (funct6_of w) w)
unfolding immediate_insn_of encode_of
immediate_insn w h ho =
    choice w _ 0 _ _ (λ f3. row w (Addi (rd_of w) (rs1_of w) (immediate_of w)) (immediate-operands w 0x13 0 h ho f3) (immediate-encodes w 0x13 0 h ho f3)) (
    choice w _ 2 _ _ (λ f3. row w (Slti (rd_of w) (rs1_of w) (immediate_of w)) (immediate-operands w 0x13 2 h ho f3) (immediate-encodes w 0x13 2 h ho f3)) (
    choice w _ 3 _ _ (λ f3. row w (Sltiu (rd_of w) (rs1_of w) (immediate_of w)) (immediate-operands w 0x13 3 h ho f3) (immediate-encodes w 0x13 3 h ho f3)) (
    choice w _ 4 _ _ (λ f3. row w (Xori (rd_of w) (rs1_of w) (immediate_of w)) (immediate-operands w 0x13 4 h ho f3) (immediate-encodes w 0x13 4 h ho f3)) (
    choice w _ 6 _ _ (λ f3. row w (Ori (rd_of w) (rs1_of w) (immediate_of w)) (immediate-operands w 0x13 6 h ho f3) (immediate-encodes w 0x13 6 h ho f3)) (
    choice w _ 7 _ _ (λ f3. row w (Andi (rd_of w) (rs1_of w) (immediate_of w)) (immediate-operands w 0x13 7 h ho f3) (immediate-encodes w 0x13 7 h ho f3)) (
    shift w h ho))))))

word_shift : (w : ℕ) → w < 2 ^ 32 → opcode_of w ≡ 0x1b → Kept w (word_shift_of (funct3_of w) (funct7_of w) w)
unfolding word_shift_of encode_of
word_shift w h ho =
    choice w _ 1 _ _ (λ f3. choice w _ 0x00 _ _ (λ f7. row w (Slliw (rd_of w) (rs1_of w) (rs2_of w)) (word_shift-operands w 0x1b 1 h ho f3) (word_shift-encodes w 0x1b 1 h ho f3 0x00 f7)) (nothing w)) (
    choice w _ 5 _ _ (λ f3.
    choice w _ 0x00 _ _ (λ f7. row w (Srliw (rd_of w) (rs1_of w) (rs2_of w)) (word_shift-operands w 0x1b 5 h ho f3) (word_shift-encodes w 0x1b 5 h ho f3 0x00 f7)) (
    choice w _ 0x20 _ _ (λ f7. row w (Sraiw (rd_of w) (rs1_of w) (rs2_of w)) (word_shift-operands w 0x1b 5 h ho f3) (word_shift-encodes w 0x1b 5 h ho f3 0x20 f7)) (
    nothing w))) (
    nothing w))

word_immediate : (w : ℕ) → w < 2 ^ 32 → opcode_of w ≡ 0x1b → Kept w (word_immediate_of (funct3_of w) (funct7_of w) w)
unfolding word_immediate_of encode_of
word_immediate w h ho =
    choice w _ 0 _ _ (λ f3. row w (Addiw (rd_of w) (rs1_of w) (immediate_of w)) (immediate-operands w 0x1b 0 h ho f3) (immediate-encodes w 0x1b 0 h ho f3)) (
    word_shift w h ho)

base : (w : ℕ) → w < 2 ^ 32 → opcode_of w ≡ 0x33 → funct7_of w ≡ 0x00 → Kept w (base_of (funct3_of w) w)
unfolding base_of encode_of
base w h ho f7 =
    choice w _ 0 _ _ (λ f3. row w (Add (rd_of w) (rs1_of w) (rs2_of w)) (register-operands w 0x33 0 h ho f3) (register-encodes w 0x33 0 h ho f3 0x00 f7)) (
    choice w _ 1 _ _ (λ f3. row w (Sll (rd_of w) (rs1_of w) (rs2_of w)) (register-operands w 0x33 1 h ho f3) (register-encodes w 0x33 1 h ho f3 0x00 f7)) (
    choice w _ 2 _ _ (λ f3. row w (Slt (rd_of w) (rs1_of w) (rs2_of w)) (register-operands w 0x33 2 h ho f3) (register-encodes w 0x33 2 h ho f3 0x00 f7)) (
    choice w _ 3 _ _ (λ f3. row w (Sltu (rd_of w) (rs1_of w) (rs2_of w)) (register-operands w 0x33 3 h ho f3) (register-encodes w 0x33 3 h ho f3 0x00 f7)) (
    choice w _ 4 _ _ (λ f3. row w (Xor (rd_of w) (rs1_of w) (rs2_of w)) (register-operands w 0x33 4 h ho f3) (register-encodes w 0x33 4 h ho f3 0x00 f7)) (
    choice w _ 5 _ _ (λ f3. row w (Srl (rd_of w) (rs1_of w) (rs2_of w)) (register-operands w 0x33 5 h ho f3) (register-encodes w 0x33 5 h ho f3 0x00 f7)) (
    choice w _ 6 _ _ (λ f3. row w (Or (rd_of w) (rs1_of w) (rs2_of w)) (register-operands w 0x33 6 h ho f3) (register-encodes w 0x33 6 h ho f3 0x00 f7)) (
    choice w _ 7 _ _ (λ f3. row w (And (rd_of w) (rs1_of w) (rs2_of w)) (register-operands w 0x33 7 h ho f3) (register-encodes w 0x33 7 h ho f3 0x00 f7)) (
    nothing w))))))))

alternate : (w : ℕ) → w < 2 ^ 32 → opcode_of w ≡ 0x33 → funct7_of w ≡ 0x20 → Kept w (alternate_of (funct3_of w) w)
unfolding alternate_of encode_of
alternate w h ho f7 =
    choice w _ 0 _ _ (λ f3. row w (Sub (rd_of w) (rs1_of w) (rs2_of w)) (register-operands w 0x33 0 h ho f3) (register-encodes w 0x33 0 h ho f3 0x20 f7)) (
    choice w _ 5 _ _ (λ f3. row w (Sra (rd_of w) (rs1_of w) (rs2_of w)) (register-operands w 0x33 5 h ho f3) (register-encodes w 0x33 5 h ho f3 0x20 f7)) (
    nothing w))

product : (w : ℕ) → w < 2 ^ 32 → opcode_of w ≡ 0x33 → funct7_of w ≡ 0x01 → Kept w (product_of (funct3_of w) w)
unfolding product_of encode_of
product w h ho f7 =
    choice w _ 0 _ _ (λ f3. row w (Mul (rd_of w) (rs1_of w) (rs2_of w)) (register-operands w 0x33 0 h ho f3) (register-encodes w 0x33 0 h ho f3 0x01 f7)) (
    choice w _ 1 _ _ (λ f3. row w (Mulh (rd_of w) (rs1_of w) (rs2_of w)) (register-operands w 0x33 1 h ho f3) (register-encodes w 0x33 1 h ho f3 0x01 f7)) (
    choice w _ 2 _ _ (λ f3. row w (Mulhsu (rd_of w) (rs1_of w) (rs2_of w)) (register-operands w 0x33 2 h ho f3) (register-encodes w 0x33 2 h ho f3 0x01 f7)) (
    choice w _ 3 _ _ (λ f3. row w (Mulhu (rd_of w) (rs1_of w) (rs2_of w)) (register-operands w 0x33 3 h ho f3) (register-encodes w 0x33 3 h ho f3 0x01 f7)) (
    choice w _ 4 _ _ (λ f3. row w (Div (rd_of w) (rs1_of w) (rs2_of w)) (register-operands w 0x33 4 h ho f3) (register-encodes w 0x33 4 h ho f3 0x01 f7)) (
    choice w _ 5 _ _ (λ f3. row w (Divu (rd_of w) (rs1_of w) (rs2_of w)) (register-operands w 0x33 5 h ho f3) (register-encodes w 0x33 5 h ho f3 0x01 f7)) (
    choice w _ 6 _ _ (λ f3. row w (Rem (rd_of w) (rs1_of w) (rs2_of w)) (register-operands w 0x33 6 h ho f3) (register-encodes w 0x33 6 h ho f3 0x01 f7)) (
    choice w _ 7 _ _ (λ f3. row w (Remu (rd_of w) (rs1_of w) (rs2_of w)) (register-operands w 0x33 7 h ho f3) (register-encodes w 0x33 7 h ho f3 0x01 f7)) (
    nothing w))))))))

register_insn : (w : ℕ) → w < 2 ^ 32 → opcode_of w ≡ 0x33 → Kept w (register_insn_of (funct3_of w) (funct7_of w) w)
unfolding register_insn_of
register_insn w h ho =
    choice w _ 0 _ _ (λ f7. base w h ho f7) (
    choice w _ 0x20 _ _ (λ f7. alternate w h ho f7) (
    choice w _ 1 _ _ (λ f7. product w h ho f7) (
    nothing w)))

word_base : (w : ℕ) → w < 2 ^ 32 → opcode_of w ≡ 0x3b → funct7_of w ≡ 0x00 → Kept w (word_base_of (funct3_of w) w)
unfolding word_base_of encode_of
word_base w h ho f7 =
    choice w _ 0 _ _ (λ f3. row w (Addw (rd_of w) (rs1_of w) (rs2_of w)) (register-operands w 0x3b 0 h ho f3) (register-encodes w 0x3b 0 h ho f3 0x00 f7)) (
    choice w _ 1 _ _ (λ f3. row w (Sllw (rd_of w) (rs1_of w) (rs2_of w)) (register-operands w 0x3b 1 h ho f3) (register-encodes w 0x3b 1 h ho f3 0x00 f7)) (
    choice w _ 5 _ _ (λ f3. row w (Srlw (rd_of w) (rs1_of w) (rs2_of w)) (register-operands w 0x3b 5 h ho f3) (register-encodes w 0x3b 5 h ho f3 0x00 f7)) (
    nothing w)))

word_alternate : (w : ℕ) → w < 2 ^ 32 → opcode_of w ≡ 0x3b → funct7_of w ≡ 0x20 → Kept w (word_alternate_of (funct3_of w) w)
unfolding word_alternate_of encode_of
word_alternate w h ho f7 =
    choice w _ 0 _ _ (λ f3. row w (Subw (rd_of w) (rs1_of w) (rs2_of w)) (register-operands w 0x3b 0 h ho f3) (register-encodes w 0x3b 0 h ho f3 0x20 f7)) (
    choice w _ 5 _ _ (λ f3. row w (Sraw (rd_of w) (rs1_of w) (rs2_of w)) (register-operands w 0x3b 5 h ho f3) (register-encodes w 0x3b 5 h ho f3 0x20 f7)) (
    nothing w))

word_product : (w : ℕ) → w < 2 ^ 32 → opcode_of w ≡ 0x3b → funct7_of w ≡ 0x01 → Kept w (word_product_of (funct3_of w) w)
unfolding word_product_of encode_of
word_product w h ho f7 =
    choice w _ 0 _ _ (λ f3. row w (Mulw (rd_of w) (rs1_of w) (rs2_of w)) (register-operands w 0x3b 0 h ho f3) (register-encodes w 0x3b 0 h ho f3 0x01 f7)) (
    choice w _ 4 _ _ (λ f3. row w (Divw (rd_of w) (rs1_of w) (rs2_of w)) (register-operands w 0x3b 4 h ho f3) (register-encodes w 0x3b 4 h ho f3 0x01 f7)) (
    choice w _ 5 _ _ (λ f3. row w (Divuw (rd_of w) (rs1_of w) (rs2_of w)) (register-operands w 0x3b 5 h ho f3) (register-encodes w 0x3b 5 h ho f3 0x01 f7)) (
    choice w _ 6 _ _ (λ f3. row w (Remw (rd_of w) (rs1_of w) (rs2_of w)) (register-operands w 0x3b 6 h ho f3) (register-encodes w 0x3b 6 h ho f3 0x01 f7)) (
    choice w _ 7 _ _ (λ f3. row w (Remuw (rd_of w) (rs1_of w) (rs2_of w)) (register-operands w 0x3b 7 h ho f3) (register-encodes w 0x3b 7 h ho f3 0x01 f7)) (
    nothing w)))))

word_register_insn : (w : ℕ) → w < 2 ^ 32 → opcode_of w ≡ 0x3b → Kept w (word_register_insn_of (funct3_of w) (funct7_of w) w)
unfolding word_register_insn_of
word_register_insn w h ho =
    choice w _ 0 _ _ (λ f7. word_base w h ho f7) (
    choice w _ 0x20 _ _ (λ f7. word_alternate w h ho f7) (
    choice w _ 1 _ _ (λ f7. word_product w h ho f7) (
    nothing w)))

whole : (w : ℕ) → Kept w (whole_word_of w)
unfolding whole_word_of encode_of
whole w =
    choice w _ 0x0ff0000f _ _ (λ e. row w Fence tt (sym e)) (
    choice w _ 0x00000073 _ _ (λ e. row w Ecall tt (sym e)) (
    choice w _ 0x00100073 _ _ (λ e. row w Ebreak tt (sym e)) (
    nothing w)))

pub decoded : (w : ℕ) → w < 2 ^ 32 → Kept w (decode_of w)
unfolding decode_of insn_by_fields encode_of
decoded w h =
    choice w _ 0x37 _ _ (λ ho. row w (Lui (rd_of w) (upper_of w)) (upper-operands w 0x37 h ho) (upper-encodes w 0x37 h ho)) (
    choice w _ 0x17 _ _ (λ ho. row w (Auipc (rd_of w) (upper_of w)) (upper-operands w 0x17 h ho) (upper-encodes w 0x17 h ho)) (
    choice w _ 0x6f _ _ (λ ho. row w (Jal (rd_of w) (jump_offset_of w)) (jump-operands w 0x6f h ho) (jump-encodes w 0x6f h ho)) (
    choice w _ 0x67 _ _ (λ ho. jump_register w h ho) (
    choice w _ 0x63 _ _ (λ ho. branch w h ho) (
    choice w _ 0x03 _ _ (λ ho. load w h ho) (
    choice w _ 0x23 _ _ (λ ho. store w h ho) (
    choice w _ 0x13 _ _ (λ ho. immediate_insn w h ho) (
    choice w _ 0x1b _ _ (λ ho. word_immediate w h ho) (
    choice w _ 0x33 _ _ (λ ho. register_insn w h ho) (
    choice w _ 0x3b _ _ (λ ho. word_register_insn w h ho) (
    whole w)))))))))))
