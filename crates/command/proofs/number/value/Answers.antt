use Rattle.std.proofs.Common.{◌<◌, ◌≤◌, ◌^◌, ℕ, arith}
use Rattle.std.proofs.Math.Nat.{pow-le-pow_right}
use Rattle.command.proofs.number.value.Goals as goal

small : (v i : ℕ) → v < 10 ^ i → i < 19 → v < 10 ^ 18
small v i h l = let p : 10 ^ i ≤ 10 ^ 18 = pow-le-pow_right {n = 10} (omega arith) {i = i} {j = 18} (omega arith) in omega arith

pub overflow_mul-value : goal.overflow_mul-value
overflow_mul-value c = omega (arith, small c.loop-digit.value c.loop-digit.digit-index c.loop-digit.invariant.below (omega arith))

pub overflow_add-value : goal.overflow_add-value
overflow_add-value c = omega (arith, small c.loop-digit.value c.loop-digit.digit-index c.loop-digit.invariant.below (omega arith))
