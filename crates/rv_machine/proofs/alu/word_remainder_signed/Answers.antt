use Rattle.std.proofs.Common.{ℕ, refl, ap, ◌∙◌}
use Rattle.std.specs.Prelude.{int_rem}
use Rattle.std.specs.Int.{w32}
use mir.Val.{to_z, of_z}
use Rattle.rv_machine.specs.Alu.{extended, low_word}
use Rattle.rv_machine.proofs.Divisions.{remainder_of_bits, word_remainder}
use Rattle.rv_machine.proofs.alu.word_remainder_signed.Goals as goal

pub returns : goal.returns
returns c =
    let x : ℕ = c.low_word-x.result in
    let y : ℕ = c.low_word-y.result in
    let bits = remainder_of_bits w32 x y _ _ _ _ refl c.low_word-x.type_inv c.low_word-y.type_inv c.cast_signed.type_inv c.cast_signed.ensures c.cast_signed-2.ensures c.wrapping_rem-remainder.ensures c.cast_unsigned.ensures in
    c.extended_32-2.ensures
    ∙ ap (extended w32)
    (bits
    ∙ ap (λ u. of_z w32 (int_rem (to_z w32 u) (to_z w32 y))) c.low_word-x.ensures
    ∙ ap (λ u. of_z w32 (int_rem (to_z w32 (low_word c.args.a)) (to_z w32 u))) c.low_word-y.ensures)
    ∙ word_remainder c.args.a c.args.b (λ zero_divisor. c.if-y-eq0.false (c.low_word-y.ensures ∙ zero_divisor))
