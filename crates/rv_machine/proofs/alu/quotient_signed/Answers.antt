use Rattle.std.proofs.Common.{refl, ◌∙◌}
use Rattle.std.specs.Int.{w64}
use Rattle.rv_machine.proofs.Divisions.{quotient_of_bits, wide_quotient}
use Rattle.rv_machine.proofs.alu.quotient_signed.Goals as goal

pub returns : goal.returns
returns c =
    quotient_of_bits w64 c.args.a c.args.b _ _ _ _ refl c.ranges.a.fits c.ranges.b.fits c.cast_signed.type_inv c.cast_signed.ensures c.cast_signed-2.ensures c.wrapping_div.ensures c.cast_unsigned.ensures
    ∙ wide_quotient c.args.a c.args.b c.if-b-eq0.false
