use Rattle.std.proofs.Common.{◌≡◌, pos, true, false, subst, sym, ◌∙◌}
use Rattle.std.specs.Int.Signed.{lt_z}
use Rattle.std.proofs.lemmas.Int.{to_z-of_z}
use Rattle.f_value.proofs.Powers.{unit_even, unit_odd, unit_plain}
use Rattle.f_value.proofs.integer.unit_power.Goals as goal

pub returns-then-not-is_negative : goal.returns-then-not-is_negative
returns-then-not-is_negative c =
    to_z-of_z _ c.args.a c.ranges.a ∙ unit_plain c.args.a c.args.n c.requires c.if-n-eq0.false (subst (λ z. lt_z z (pos 0) ≡ false) (to_z-of_z _ c.args.a c.ranges.a) (sym c.is_negative.ensures ∙ c.if-not-is_negative.true))

pub returns-then-n-eq0-2 : goal.returns-then-n-eq0-2
returns-then-n-eq0-2 c = unit_even c.args.a c.args.n c.requires (subst (λ z. lt_z z (pos 0) ≡ true) (to_z-of_z _ c.args.a c.ranges.a) (sym c.is_negative.ensures ∙ c.if-not-is_negative.false)) c.if-n-eq0-2.true

pub returns : goal.returns
returns c = to_z-of_z _ c.args.a c.ranges.a ∙ unit_odd c.args.a c.args.n c.requires (subst (λ z. lt_z z (pos 0) ≡ true) (to_z-of_z _ c.args.a c.ranges.a) (sym c.is_negative.ensures ∙ c.if-not-is_negative.false)) c.if-n-eq0-2.false
