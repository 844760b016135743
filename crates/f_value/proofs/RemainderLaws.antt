-- MOD and MODULO of numbers of a kind.
use Rattle.std.proofs.Common.{◌≡◌, ◌≢◌, ℕ, ℤ, pos, negsuc, suc, zero, ◌<◌, ◌≤◌, ◌+ℤ◌, ◌*ℤ◌, ◌≤ℤ◌, ◌<ℤ◌, max, Bool, true, false, if◌then◌else◌, unsigned_abs, int_div, int_rem, Some, refl, arith}
use Rattle.std.proofs.Math.IntN.{pred_ℤ, pred_ℤ-*ℤ}
use Rattle.std.proofs.lemmas.Int.{ints, quot-rem, rem_below}
use Rattle.jf_base.specs.Numbers.{half_of}
use Rattle.f_value.specs.declared.value.FOp.TheVariants as op
use Rattle.f_value.specs.declared.value.FValue.TheVariants.{Int}
use Rattle.f_value.specs.Answers.{Gives}
use Rattle.f_value.specs.Integers.{is_zero}
use Rattle.f_value.specs.Intrinsics.{differs_in_sign, modulo, remainder, with_sign_of}
use Rattle.f_value.specs.Operators.{binary_of}
use Rattle.f_value.specs.Values.{has, in_kind, width_of_kind}
use Rattle.f_value.proofs.BitLaws.{gives_in_kind}
use Rattle.f_value.proofs.ModuloLaws.{modulo_down, modulo_up}
use Rattle.f_value.proofs.Patterns.{in_half, near, size_within}

some_size : (p : ℤ) → p ≢ pos 0 → 0 < unsigned_abs p
some_size (pos zero) h = absurd (h refl)
some_size (pos (suc n)) h = omega arith
some_size (negsuc n) h = omega arith

not_zero : (p : ℤ) → p ≢ pos 0 → is_zero p ≡ false
not_zero (pos zero) h = absurd (h refl)
not_zero (pos (suc n)) h = grind arith
not_zero (negsuc n) h = grind arith

same_kind : (kind : ℕ) → max kind kind ≡ kind
same_kind kind = omega arith

pub divided : (a p : ℤ) (kind : ℕ) → p ≢ pos 0 → binary_of op.Divide (Int a kind) (Int p kind) ≡ Some (in_kind (int_div a p) kind)
divided a p kind h = rw (same_kind kind, not_zero p h) refl

rem_on : (a p : ℤ) → pos 0 ≤ℤ a → pos 0 ≤ℤ int_rem a p
rem_on (pos n) p h = omega (arith, ints)
rem_on (negsuc n) p h = absurd (omega (arith, ints))

rem_back : (a p : ℤ) → a ≤ℤ pos 0 → int_rem a p ≤ℤ pos 0
rem_back (pos zero) p h = omega (arith, ints)
rem_back (pos (suc n)) p h = absurd (omega (arith, ints))
rem_back (negsuc n) p h = omega (arith, ints)

smaller : (a p : ℤ) (kind : ℕ) → has kind p ≡ true → p ≢ pos 0 → unsigned_abs (int_rem a p) < half_of (width_of_kind kind)
smaller a p kind q h = omega (arith, rem_below a p (some_size p h), size_within (half_of (width_of_kind kind)) p q)

abbrev Left : ℤ → ℤ → ℤ → Type 0
Left a p r = (int_div a p *ℤ p +ℤ r ≡ a) × (unsigned_abs r < unsigned_abs p) × (pos 0 ≤ℤ a → pos 0 ≤ℤ r) × (a ≤ℤ pos 0 → r ≤ℤ pos 0)

pub leaves_remainder : (a p : ℤ) (kind : ℕ) → has kind p ≡ true → p ≢ pos 0 → Gives (Some (remainder a p kind)) kind (Left a p)
leaves_remainder a p kind q h =
    rw (not_zero p h)
    (gives_in_kind (int_rem a p) kind (Left a p) (near (half_of (width_of_kind kind)) (int_rem a p) (smaller a p kind q h))
    (quot-rem a p, rem_below a p (some_size p h), rem_on a p, rem_back a p))

quotient_at : (a p : ℤ) (b : Bool) → (q : ℤ) × (q *ℤ p +ℤ (if b then int_rem a p +ℤ p else int_rem a p) ≡ a)
quotient_at a p true = (pred_ℤ (int_div a p), let e = pred_ℤ-*ℤ (int_div a p) p in let f = quot-rem a p in rw e (omega (arith, ints, f)))
quotient_at a p false = (int_div a p, quot-rem a p)

within_up : (h : ℕ) (p r : ℤ) → unsigned_abs p ≤ h → (pos 0 ≤ℤ r) × (r <ℤ p) → in_half h r ≡ true
within_up h (pos n) (pos m) l (f, g) = near h (pos m) (omega (arith, ints))
within_up h (negsuc n) (pos m) l (f, g) = absurd (omega (arith, ints))
within_up h p (negsuc m) l (f, g) = absurd (omega (arith, ints))

within_down : (h : ℕ) (p r : ℤ) → unsigned_abs p ≤ h → (p <ℤ r) × (r ≤ℤ pos 0) → in_half h r ≡ true
within_down h (negsuc n) (negsuc m) l (f, g) = near h (negsuc m) (omega (arith, ints))
within_down h (negsuc n) (pos m) l (f, g) = near h (pos m) (omega (arith, ints))
within_down h (pos n) (negsuc m) l (f, g) = absurd (omega (arith, ints))
within_down h (pos n) (pos m) l (f, g) = absurd (omega (arith, ints))

modulo_within : (a p : ℤ) (kind : ℕ) → has kind p ≡ true → p ≢ pos 0 → has kind (with_sign_of (int_rem a p) p) ≡ true
modulo_within a (pos zero) kind q h = absurd (h refl)
modulo_within a (pos (suc n)) kind q h = within_up (half_of (width_of_kind kind)) (pos (suc n)) (with_sign_of (int_rem a (pos (suc n))) (pos (suc n))) (size_within (half_of (width_of_kind kind)) (pos (suc n)) q) (modulo_up a (pos (suc n)) (omega (arith, ints)))
modulo_within a (negsuc n) kind q h = within_down (half_of (width_of_kind kind)) (negsuc n) (with_sign_of (int_rem a (negsuc n)) (negsuc n)) (size_within (half_of (width_of_kind kind)) (negsuc n) q) (modulo_down a (negsuc n) (omega (arith, ints)))

abbrev Over : ℤ → ℤ → ℤ → Type 0
Over a p r = ((q : ℤ) × (q *ℤ p +ℤ r ≡ a)) × (pos 0 <ℤ p → (pos 0 ≤ℤ r) × (r <ℤ p)) × (p <ℤ pos 0 → (p <ℤ r) × (r ≤ℤ pos 0))

pub leaves_modulo : (a p : ℤ) (kind : ℕ) → has kind p ≡ true → p ≢ pos 0 → Gives (Some (modulo a p kind)) kind (Over a p)
leaves_modulo a p kind q h =
    rw (not_zero p h)
    (gives_in_kind (with_sign_of (int_rem a p) p) kind (Over a p) (modulo_within a p kind q h)
    (quotient_at a p (differs_in_sign (int_rem a p) p), modulo_up a p, modulo_down a p))
