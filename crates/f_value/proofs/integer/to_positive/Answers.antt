use Rattle.std.proofs.Common.{◌≡◌, false, nat_le, unsigned_abs, subst, ap, sym, ◌∙◌}
use Rattle.f_value.specs.Values.{in_kind}
use Rattle.std.specs.Int.{int_pow}
use Rattle.std.proofs.lemmas.Int.{to_z-of_z}
use Rattle.f_value.proofs.Powers.{power-int_pow, power_too_large}
use Rattle.f_value.proofs.integer.to_positive.Goals as goal

pub returns-then-n-ge127 : goal.returns-then-n-ge127
returns-then-n-ge127 c = power_too_large c.args.a c.args.n c.args.kind (subst (λ z. nat_le (unsigned_abs z) 1 ≡ false) (to_z-of_z _ c.args.a c.ranges.a) (sym c.is_unit.ensures ∙ c.if-is_unit.false)) c.if-n-ge127.true

pub returns : goal.returns
returns c = subst (λ z. c.exact_power.result ≡ in_kind (int_pow z c.args.n) c.args.kind) (to_z-of_z _ c.args.a c.ranges.a) c.exact_power.ensures ∙ ap (λ z. in_kind z c.args.kind) (sym (power-int_pow c.args.a c.args.n))
