-- MODULO has the sign of P.
use Rattle.std.proofs.Common.{◌≡◌, ℕ, ℤ, pos, negsuc, suc, zero, ◌<◌, ◌≤ℤ◌, ◌<ℤ◌, true, false, unsigned_abs, int_rem, arith}
use Rattle.std.proofs.lemmas.Int.{ints, rem_below}
use Rattle.f_value.specs.Intrinsics.{differs_in_sign, with_sign_of}

up_kept : (k n : ℕ) → differs_in_sign (pos k) (pos (suc n)) ≡ false
up_kept k n = grind arith

up_moved : (k n : ℕ) → differs_in_sign (negsuc k) (pos (suc n)) ≡ true
up_moved k n = grind arith

down_moved : (k n : ℕ) → differs_in_sign (pos (suc k)) (negsuc n) ≡ true
down_moved k n = grind arith

sign_up : (r : ℤ) (n : ℕ) → unsigned_abs r < suc n → (pos 0 ≤ℤ with_sign_of r (pos (suc n))) × (with_sign_of r (pos (suc n)) <ℤ pos (suc n))
sign_up (pos k) n h = rw (up_kept k n) (omega (arith, ints), omega (arith, ints))
sign_up (negsuc k) n h = rw (up_moved k n) (omega (arith, ints), omega (arith, ints))

sign_down : (r : ℤ) (n : ℕ) → unsigned_abs r < suc n → (negsuc n <ℤ with_sign_of r (negsuc n)) × (with_sign_of r (negsuc n) ≤ℤ pos 0)
sign_down (pos zero) n h = (omega (arith, ints), omega (arith, ints))
sign_down (pos (suc k)) n h = rw (down_moved k n) (omega (arith, ints), omega (arith, ints))
sign_down (negsuc k) n h = (omega (arith, ints), omega (arith, ints))

pub modulo_up : (a p : ℤ) → pos 0 <ℤ p → (pos 0 ≤ℤ with_sign_of (int_rem a p) p) × (with_sign_of (int_rem a p) p <ℤ p)
modulo_up a (pos zero) h = absurd (omega (arith, ints))
modulo_up a (pos (suc n)) h = sign_up (int_rem a (pos (suc n))) n (rem_below a (pos (suc n)) (omega arith))
modulo_up a (negsuc n) h = absurd (omega (arith, ints))

pub modulo_down : (a p : ℤ) → p <ℤ pos 0 → (p <ℤ with_sign_of (int_rem a p) p) × (with_sign_of (int_rem a p) p ≤ℤ pos 0)
modulo_down a (pos n) h = absurd (omega (arith, ints))
modulo_down a (negsuc n) h = sign_down (int_rem a (negsuc n)) n (rem_below a (negsuc n) (omega arith))
