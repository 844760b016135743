-- Remainders by a stride, as small as the stride.
use Rattle.std.proofs.Common.{◌≡◌, ◌≢◌, ℕ, ℤ, pos, negsuc, suc, zero, ◌<◌, ◌≤◌, ◌+ℤ◌, ◌≤ℤ◌, ◌^◌, FitsSigned, w64, unsigned_abs, int_rem, refl, arith}
use Rattle.std.proofs.lemmas.Int.{ints, rem_below}

pub abs_positive : (d : ℤ) → d ≢ pos 0 → 0 < unsigned_abs d
abs_positive (pos zero) h = absurd (h refl)
abs_positive (pos (suc n)) h = omega arith
abs_positive (negsuc n) h = omega arith

pub rem-abs : (z d : ℤ) → int_rem z (pos (unsigned_abs d)) ≡ int_rem z d
rem-abs (pos n) d = refl
rem-abs (negsuc n) d = refl

pub within_abs : (z : ℤ) (n : ℕ) → unsigned_abs z ≤ n → (z ≤ℤ pos n) × (pos 0 ≤ℤ (z +ℤ pos n))
within_abs (pos k) n h = (omega (arith, ints), omega (arith, ints))
within_abs (negsuc k) n h = (omega (arith, ints), omega (arith, ints))

pub abs_fits : (d : ℤ) → FitsSigned w64 d → unsigned_abs d ≤ 2 ^ 63
abs_fits (pos n) h = omega (arith, ints)
abs_fits (negsuc n) h = omega (arith, ints)

-- the remainder is no larger than the stride
pub rem_within : (z d : ℤ) → FitsSigned w64 d → d ≢ pos 0 → (int_rem z d ≤ℤ pos (2 ^ 63)) × (pos 0 ≤ℤ (int_rem z d +ℤ pos (2 ^ 63)))
rem_within z d f n = within_abs (int_rem z d) (2 ^ 63) (omega (arith, rem_below z d (abs_positive d n), abs_fits d f))
