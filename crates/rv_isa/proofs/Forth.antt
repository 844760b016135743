-- Coding and decoding are inverse to each other: on the instructions that can be encoded, and on the words that decode.
use Rattle.std.proofs.Common.{◌≡◌, ◌^◌, ◌<◌, arith, refl, lit<}
use Rattle.std.specs.Prelude.{Some}
use Rattle.rv_isa.specs.declared.insn.Insn.{Insn}
use Rattle.rv_isa.specs.declared.insn.Insn.TheVariants.{Lui, Auipc, Jal, Jalr, Beq, Bne, Blt, Bge, Bltu, Bgeu, Lb, Lh, Lw, Ld, Lbu, Lhu, Lwu, Sb, Sh, Sw, Sd, Addi, Slti, Sltiu, Xori, Ori, Andi, Slli, Srli, Srai, Addiw, Slliw, Srliw, Sraiw, Add, Sub, Sll, Slt, Sltu, Xor, Srl, Sra, Or, And, Mul, Mulh, Mulhsu, Mulhu, Div, Divu, Rem, Remu, Addw, Subw, Sllw, Srlw, Sraw, Mulw, Divw, Divuw, Remw, Remuw, Fence, Ecall, Ebreak}
use Rattle.rv_isa.specs.Encode.{IsEncodable, encode_of}
use Rattle.rv_isa.specs.Decode.{jump_register_of, branch_of, load_of, store_of, shift_of, immediate_insn_of, word_shift_of, word_immediate_of, base_of, alternate_of, product_of, register_insn_of, word_base_of, word_alternate_of, word_product_of, word_register_insn_of, whole_word_of, insn_by_fields, decode_of}
use Rattle.rv_isa.proofs.WordsOf.{upper-decodes, jump-decodes, immediate-decodes, branch-decodes, store-decodes, shift-decodes, word_shift-decodes, register-decodes}

-- each instruction that can be encoded is that of its word
pub encode-decode : (i : Insn) → IsEncodable i → decode_of (encode_of i) ≡ Some i
unfolding encode_of jump_register_of branch_of load_of store_of shift_of immediate_insn_of word_shift_of word_immediate_of base_of alternate_of product_of register_insn_of word_base_of word_alternate_of word_product_of word_register_insn_of whole_word_of insn_by_fields decode_of
encode-decode (Lui rd imm) h = upper-decodes Lui 0x37 (lit< tt) rd imm h (λ a b c w. refl)
encode-decode (Auipc rd imm) h = upper-decodes Auipc 0x17 (lit< tt) rd imm h (λ a b c w. refl)
encode-decode (Jal rd imm) h = jump-decodes Jal 0x6f (lit< tt) rd imm h (λ a b c w. refl)
encode-decode (Jalr rd rs1 imm) h = immediate-decodes Jalr 0x67 0 (lit< tt) (lit< tt) rd rs1 imm h (λ a w. refl)
encode-decode (Beq rs1 rs2 imm) h = branch-decodes Beq 0x63 0 (lit< tt) (lit< tt) rs1 rs2 imm h (λ a w. refl)
encode-decode (Bne rs1 rs2 imm) h = branch-decodes Bne 0x63 1 (lit< tt) (lit< tt) rs1 rs2 imm h (λ a w. refl)
encode-decode (Blt rs1 rs2 imm) h = branch-decodes Blt 0x63 4 (lit< tt) (lit< tt) rs1 rs2 imm h (λ a w. refl)
encode-decode (Bge rs1 rs2 imm) h = branch-decodes Bge 0x63 5 (lit< tt) (lit< tt) rs1 rs2 imm h (λ a w. refl)
encode-decode (Bltu rs1 rs2 imm) h = branch-decodes Bltu 0x63 6 (lit< tt) (lit< tt) rs1 rs2 imm h (λ a w. refl)
encode-decode (Bgeu rs1 rs2 imm) h = branch-decodes Bgeu 0x63 7 (lit< tt) (lit< tt) rs1 rs2 imm h (λ a w. refl)
encode-decode (Lb rd rs1 imm) h = immediate-decodes Lb 0x03 0 (lit< tt) (lit< tt) rd rs1 imm h (λ a w. refl)
encode-decode (Lh rd rs1 imm) h = immediate-decodes Lh 0x03 1 (lit< tt) (lit< tt) rd rs1 imm h (λ a w. refl)
encode-decode (Lw rd rs1 imm) h = immediate-decodes Lw 0x03 2 (lit< tt) (lit< tt) rd rs1 imm h (λ a w. refl)
encode-decode (Ld rd rs1 imm) h = immediate-decodes Ld 0x03 3 (lit< tt) (lit< tt) rd rs1 imm h (λ a w. refl)
encode-decode (Lbu rd rs1 imm) h = immediate-decodes Lbu 0x03 4 (lit< tt) (lit< tt) rd rs1 imm h (λ a w. refl)
encode-decode (Lhu rd rs1 imm) h = immediate-decodes Lhu 0x03 5 (lit< tt) (lit< tt) rd rs1 imm h (λ a w. refl)
encode-decode (Lwu rd rs1 imm) h = immediate-decodes Lwu 0x03 6 (lit< tt) (lit< tt) rd rs1 imm h (λ a w. refl)
encode-decode (Sb rs1 rs2 imm) h = store-decodes Sb 0x23 0 (lit< tt) (lit< tt) rs1 rs2 imm h (λ a w. refl)
encode-decode (Sh rs1 rs2 imm) h = store-decodes Sh 0x23 1 (lit< tt) (lit< tt) rs1 rs2 imm h (λ a w. refl)
encode-decode (Sw rs1 rs2 imm) h = store-decodes Sw 0x23 2 (lit< tt) (lit< tt) rs1 rs2 imm h (λ a w. refl)
encode-decode (Sd rs1 rs2 imm) h = store-decodes Sd 0x23 3 (lit< tt) (lit< tt) rs1 rs2 imm h (λ a w. refl)
encode-decode (Addi rd rs1 imm) h = immediate-decodes Addi 0x13 0 (lit< tt) (lit< tt) rd rs1 imm h (λ a w. refl)
encode-decode (Slti rd rs1 imm) h = immediate-decodes Slti 0x13 2 (lit< tt) (lit< tt) rd rs1 imm h (λ a w. refl)
encode-decode (Sltiu rd rs1 imm) h = immediate-decodes Sltiu 0x13 3 (lit< tt) (lit< tt) rd rs1 imm h (λ a w. refl)
encode-decode (Xori rd rs1 imm) h = immediate-decodes Xori 0x13 4 (lit< tt) (lit< tt) rd rs1 imm h (λ a w. refl)
encode-decode (Ori rd rs1 imm) h = immediate-decodes Ori 0x13 6 (lit< tt) (lit< tt) rd rs1 imm h (λ a w. refl)
encode-decode (Andi rd rs1 imm) h = immediate-decodes Andi 0x13 7 (lit< tt) (lit< tt) rd rs1 imm h (λ a w. refl)
encode-decode (Slli rd rs1 imm) h = shift-decodes Slli 0x13 1 (lit< tt) (lit< tt) 0x00 rd rs1 imm (lit< tt) h (λ a w. refl)
encode-decode (Srli rd rs1 imm) h = shift-decodes Srli 0x13 5 (lit< tt) (lit< tt) 0x00 rd rs1 imm (lit< tt) h (λ a w. refl)
encode-decode (Srai rd rs1 imm) h = shift-decodes Srai 0x13 5 (lit< tt) (lit< tt) 0x10 rd rs1 imm (lit< tt) h (λ a w. refl)
encode-decode (Addiw rd rs1 imm) h = immediate-decodes Addiw 0x1b 0 (lit< tt) (lit< tt) rd rs1 imm h (λ a w. refl)
encode-decode (Slliw rd rs1 imm) h = word_shift-decodes Slliw 0x1b 1 (lit< tt) (lit< tt) 0x00 rd rs1 imm (lit< tt) h (λ a w. refl)
encode-decode (Srliw rd rs1 imm) h = word_shift-decodes Srliw 0x1b 5 (lit< tt) (lit< tt) 0x00 rd rs1 imm (lit< tt) h (λ a w. refl)
encode-decode (Sraiw rd rs1 imm) h = word_shift-decodes Sraiw 0x1b 5 (lit< tt) (lit< tt) 0x20 rd rs1 imm (lit< tt) h (λ a w. refl)
encode-decode (Add rd rs1 rs2) h = register-decodes Add 0x33 0 (lit< tt) (lit< tt) 0x00 rd rs1 rs2 (lit< tt) h (λ w. refl)
encode-decode (Sub rd rs1 rs2) h = register-decodes Sub 0x33 0 (lit< tt) (lit< tt) 0x20 rd rs1 rs2 (lit< tt) h (λ w. refl)
encode-decode (Sll rd rs1 rs2) h = register-decodes Sll 0x33 1 (lit< tt) (lit< tt) 0x00 rd rs1 rs2 (lit< tt) h (λ w. refl)
encode-decode (Slt rd rs1 rs2) h = register-decodes Slt 0x33 2 (lit< tt) (lit< tt) 0x00 rd rs1 rs2 (lit< tt) h (λ w. refl)
encode-decode (Sltu rd rs1 rs2) h = register-decodes Sltu 0x33 3 (lit< tt) (lit< tt) 0x00 rd rs1 rs2 (lit< tt) h (λ w. refl)
encode-decode (Xor rd rs1 rs2) h = register-decodes Xor 0x33 4 (lit< tt) (lit< tt) 0x00 rd rs1 rs2 (lit< tt) h (λ w. refl)
encode-decode (Srl rd rs1 rs2) h = register-decodes Srl 0x33 5 (lit< tt) (lit< tt) 0x00 rd rs1 rs2 (lit< tt) h (λ w. refl)
encode-decode (Sra rd rs1 rs2) h = register-decodes Sra 0x33 5 (lit< tt) (lit< tt) 0x20 rd rs1 rs2 (lit< tt) h (λ w. refl)
encode-decode (Or rd rs1 rs2) h = register-decodes Or 0x33 6 (lit< tt) (lit< tt) 0x00 rd rs1 rs2 (lit< tt) h (λ w. refl)
encode-decode (And rd rs1 rs2) h = register-decodes And 0x33 7 (lit< tt) (lit< tt) 0x00 rd rs1 rs2 (lit< tt) h (λ w. refl)
encode-decode (Mul rd rs1 rs2) h = register-decodes Mul 0x33 0 (lit< tt) (lit< tt) 0x01 rd rs1 rs2 (lit< tt) h (λ w. refl)
encode-decode (Mulh rd rs1 rs2) h = register-decodes Mulh 0x33 1 (lit< tt) (lit< tt) 0x01 rd rs1 rs2 (lit< tt) h (λ w. refl)
encode-decode (Mulhsu rd rs1 rs2) h = register-decodes Mulhsu 0x33 2 (lit< tt) (lit< tt) 0x01 rd rs1 rs2 (lit< tt) h (λ w. refl)
encode-decode (Mulhu rd rs1 rs2) h = register-decodes Mulhu 0x33 3 (lit< tt) (lit< tt) 0x01 rd rs1 rs2 (lit< tt) h (λ w. refl)
encode-decode (Div rd rs1 rs2) h = register-decodes Div 0x33 4 (lit< tt) (lit< tt) 0x01 rd rs1 rs2 (lit< tt) h (λ w. refl)
encode-decode (Divu rd rs1 rs2) h = register-decodes Divu 0x33 5 (lit< tt) (lit< tt) 0x01 rd rs1 rs2 (lit< tt) h (λ w. refl)
encode-decode (Rem rd rs1 rs2) h = register-decodes Rem 0x33 6 (lit< tt) (lit< tt) 0x01 rd rs1 rs2 (lit< tt) h (λ w. refl)
encode-decode (Remu rd rs1 rs2) h = register-decodes Remu 0x33 7 (lit< tt) (lit< tt) 0x01 rd rs1 rs2 (lit< tt) h (λ w. refl)
encode-decode (Addw rd rs1 rs2) h = register-decodes Addw 0x3b 0 (lit< tt) (lit< tt) 0x00 rd rs1 rs2 (lit< tt) h (λ w. refl)
encode-decode (Subw rd rs1 rs2) h = register-decodes Subw 0x3b 0 (lit< tt) (lit< tt) 0x20 rd rs1 rs2 (lit< tt) h (λ w. refl)
encode-decode (Sllw rd rs1 rs2) h = register-decodes Sllw 0x3b 1 (lit< tt) (lit< tt) 0x00 rd rs1 rs2 (lit< tt) h (λ w. refl)
encode-decode (Srlw rd rs1 rs2) h = register-decodes Srlw 0x3b 5 (lit< tt) (lit< tt) 0x00 rd rs1 rs2 (lit< tt) h (λ w. refl)
encode-decode (Sraw rd rs1 rs2) h = register-decodes Sraw 0x3b 5 (lit< tt) (lit< tt) 0x20 rd rs1 rs2 (lit< tt) h (λ w. refl)
encode-decode (Mulw rd rs1 rs2) h = register-decodes Mulw 0x3b 0 (lit< tt) (lit< tt) 0x01 rd rs1 rs2 (lit< tt) h (λ w. refl)
encode-decode (Divw rd rs1 rs2) h = register-decodes Divw 0x3b 4 (lit< tt) (lit< tt) 0x01 rd rs1 rs2 (lit< tt) h (λ w. refl)
encode-decode (Divuw rd rs1 rs2) h = register-decodes Divuw 0x3b 5 (lit< tt) (lit< tt) 0x01 rd rs1 rs2 (lit< tt) h (λ w. refl)
encode-decode (Remw rd rs1 rs2) h = register-decodes Remw 0x3b 6 (lit< tt) (lit< tt) 0x01 rd rs1 rs2 (lit< tt) h (λ w. refl)
encode-decode (Remuw rd rs1 rs2) h = register-decodes Remuw 0x3b 7 (lit< tt) (lit< tt) 0x01 rd rs1 rs2 (lit< tt) h (λ w. refl)
encode-decode Fence h = refl
encode-decode Ecall h = refl
encode-decode Ebreak h = refl

-- a word has 32 bits
pub encode-small : (i : Insn) → IsEncodable i → encode_of i < 2 ^ 32
unfolding encode_of
encode-small (Lui rd imm) h = omega arith
encode-small (Auipc rd imm) h = omega arith
encode-small (Jal rd imm) h = omega arith
encode-small (Jalr rd rs1 imm) h = omega arith
encode-small (Beq rs1 rs2 imm) h = omega arith
encode-small (Bne rs1 rs2 imm) h = omega arith
encode-small (Blt rs1 rs2 imm) h = omega arith
encode-small (Bge rs1 rs2 imm) h = omega arith
encode-small (Bltu rs1 rs2 imm) h = omega arith
encode-small (Bgeu rs1 rs2 imm) h = omega arith
encode-small (Lb rd rs1 imm) h = omega arith
encode-small (Lh rd rs1 imm) h = omega arith
encode-small (Lw rd rs1 imm) h = omega arith
encode-small (Ld rd rs1 imm) h = omega arith
encode-small (Lbu rd rs1 imm) h = omega arith
encode-small (Lhu rd rs1 imm) h = omega arith
encode-small (Lwu rd rs1 imm) h = omega arith
encode-small (Sb rs1 rs2 imm) h = omega arith
encode-small (Sh rs1 rs2 imm) h = omega arith
encode-small (Sw rs1 rs2 imm) h = omega arith
encode-small (Sd rs1 rs2 imm) h = omega arith
encode-small (Addi rd rs1 imm) h = omega arith
encode-small (Slti rd rs1 imm) h = omega arith
encode-small (Sltiu rd rs1 imm) h = omega arith
encode-small (Xori rd rs1 imm) h = omega arith
encode-small (Ori rd rs1 imm) h = omega arith
encode-small (Andi rd rs1 imm) h = omega arith
encode-small (Slli rd rs1 imm) h = omega arith
encode-small (Srli rd rs1 imm) h = omega arith
encode-small (Srai rd rs1 imm) h = omega arith
encode-small (Addiw rd rs1 imm) h = omega arith
encode-small (Slliw rd rs1 imm) h = omega arith
encode-small (Srliw rd rs1 imm) h = omega arith
encode-small (Sraiw rd rs1 imm) h = omega arith
encode-small (Add rd rs1 rs2) h = omega arith
encode-small (Sub rd rs1 rs2) h = omega arith
encode-small (Sll rd rs1 rs2) h = omega arith
encode-small (Slt rd rs1 rs2) h = omega arith
encode-small (Sltu rd rs1 rs2) h = omega arith
encode-small (Xor rd rs1 rs2) h = omega arith
encode-small (Srl rd rs1 rs2) h = omega arith
encode-small (Sra rd rs1 rs2) h = omega arith
encode-small (Or rd rs1 rs2) h = omega arith
encode-small (And rd rs1 rs2) h = omega arith
encode-small (Mul rd rs1 rs2) h = omega arith
encode-small (Mulh rd rs1 rs2) h = omega arith
encode-small (Mulhsu rd rs1 rs2) h = omega arith
encode-small (Mulhu rd rs1 rs2) h = omega arith
encode-small (Div rd rs1 rs2) h = omega arith
encode-small (Divu rd rs1 rs2) h = omega arith
encode-small (Rem rd rs1 rs2) h = omega arith
encode-small (Remu rd rs1 rs2) h = omega arith
encode-small (Addw rd rs1 rs2) h = omega arith
encode-small (Subw rd rs1 rs2) h = omega arith
encode-small (Sllw rd rs1 rs2) h = omega arith
encode-small (Srlw rd rs1 rs2) h = omega arith
encode-small (Sraw rd rs1 rs2) h = omega arith
encode-small (Mulw rd rs1 rs2) h = omega arith
encode-small (Divw rd rs1 rs2) h = omega arith
encode-small (Divuw rd rs1 rs2) h = omega arith
encode-small (Remw rd rs1 rs2) h = omega arith
encode-small (Remuw rd rs1 rs2) h = omega arith
encode-small Fence h = lit< tt
encode-small Ecall h = lit< tt
encode-small Ebreak h = lit< tt
