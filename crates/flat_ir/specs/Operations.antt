-- What an operation gives: the machine's own operations on 64 bits (the RISC-V unprivileged specification, 2.4, 4.2 and 7).
use Rattle.std.specs.Prelude.{ℕ, Bool, true, false, bit_and, bit_or, bit_xor}
use Rattle.std.specs.Int as int
use Rattle.std.specs.Int.{w8, w16, w32, w64}
use Rattle.jf_base.specs.declared.numbers.Width.{Width}
use Rattle.jf_base.specs.declared.numbers.Width.TheVariants.{W1, W2, W4, W8}
use Rattle.rv_machine.specs.Alu as alu
use Rattle.flat_ir.specs.declared.program.Operation.{Operation}
use Rattle.flat_ir.specs.declared.program.Operation.TheVariants as O

abbrev pub result_of : Operation → ℕ → ℕ → ℕ
result_of O.Add a b = alu.sum_of a b
result_of O.Sub a b = alu.difference_of a b
result_of O.Sll a b = alu.shifted_left a b
result_of O.Slt a b = alu.is_less_signed a b
result_of O.Sltu a b = alu.is_less_unsigned a b
result_of O.Xor a b = bit_xor a b
result_of O.Srl a b = alu.shifted_right a b
result_of O.Sra a b = alu.shifted_right_signed a b
result_of O.Or a b = bit_or a b
result_of O.And a b = bit_and a b
result_of O.Mul a b = alu.product_of a b
result_of O.Mulh a b = alu.high_product_signed a b
result_of O.Mulhsu a b = alu.high_product_mixed a b
result_of O.Mulhu a b = alu.high_product_unsigned a b
result_of O.Div a b = alu.quotient_signed a b
result_of O.Divu a b = alu.quotient_unsigned a b
result_of O.Rem a b = alu.remainder_signed a b
result_of O.Remu a b = alu.remainder_unsigned a b
result_of O.Addw a b = alu.word_sum a b
result_of O.Subw a b = alu.word_difference a b
result_of O.Sllw a b = alu.word_shifted_left a b
result_of O.Srlw a b = alu.word_shifted_right a b
result_of O.Sraw a b = alu.word_shifted_right_signed a b
result_of O.Mulw a b = alu.word_product a b
result_of O.Divw a b = alu.word_quotient_signed a b
result_of O.Divuw a b = alu.word_quotient_unsigned a b
result_of O.Remw a b = alu.word_remainder_signed a b
result_of O.Remuw a b = alu.word_remainder_unsigned a b

abbrev pub bits_of : Width → int.Width
bits_of W1 = w8
bits_of W2 = w16
bits_of W4 = w32
bits_of W8 = w64

-- 2.6: what a load makes of the bytes of a width: they are extended with their sign, or with zeros
abbrev pub extended : Width → Bool → ℕ → ℕ
extended w true v = alu.extended (bits_of w) v
extended w false v = v
