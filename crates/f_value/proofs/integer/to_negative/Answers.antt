use Rattle.std.proofs.Common.{◌≡◌, false, nat_le, unsigned_abs, subst, sym, ◌∙◌}
use Rattle.std.proofs.lemmas.Int.{to_z-of_z}
use Rattle.f_value.proofs.Powers.{inverse_none}
use Rattle.f_value.proofs.integer.to_negative.Goals as goal

pub returns-else-is_unit : goal.returns-else-is_unit
returns-else-is_unit c = c.in_kind.ensures ∙ inverse_none c.args.a c.args.n c.args.kind (subst (λ z. nat_le (unsigned_abs z) 1 ≡ false) (to_z-of_z _ c.args.a c.ranges.a) (sym c.is_unit.ensures ∙ c.if-is_unit.false)) c.requires
