use Rattle.std.proofs.Common.{refl, subst, ◌≤◌, ◌+◌, ◌*◌, ℕ, arith}
use Rattle.f_lex.specs.Words.{number_of}
use Rattle.f_lex.proofs.Numbers.{too_large}
use Rattle.f_lex.proofs.words.is_number.Goals as goal

pub loop-digit-init : goal.loop-digit-init
unfolding number_of
loop-digit-init c = record { small = omega arith; so_far = refl }

pub returns-then-value : goal.returns-then-value
returns-then-value c =
    too_large c.args.digits.now c.loop-digit.digit-index c.loop-digit.value 9223372036854775808 _ c.loop-digit-test.true c.loop-digit.invariant.so_far
    (subst (λ (d : ℕ). 9223372036854775808 ≤ c.loop-digit.value * 10 + d) c.saturating_sub.ensures c.if-value.true)
