-- Powers of numbers.
use Rattle.std.proofs.Common.{◌≡◌, ℕ, ℤ, pos, negsuc, neg_ℤ, suc, zero, ◌*◌, ◌/◌, ◌%◌, ◌^◌, ◌<◌, ◌≤◌, ◌*ℤ◌, cond, nat_eq, true, false, unsigned_abs, ◌&&◌, lit≤, lit<, nat_le, refl, ap, sym, ◌∙◌, arith}
use Rattle.std.specs.Int.{int_pow}
use Rattle.std.proofs.Math.Nat.{pow-suc, pow-zero, mul_comm, pow-le-pow_left, pow-le-pow_right, one-le-pow, mul-le-mul_left, div-eq_of_lt}
use Rattle.std.proofs.lemmas.Int.{unsigned_abs-mul}
use Rattle.std.specs.Int.Signed.{le_z, lt_z}
use Rattle.jf_base.specs.declared.numbers.Width.{Width}
use Rattle.jf_base.specs.declared.numbers.Width.TheVariants.{W1, W2, W4, W8}
use Rattle.jf_base.specs.Numbers.{half_of}
use Rattle.f_value.specs.Integers.{power, quotient, raised}
use Rattle.f_value.specs.Values.{has, in_kind, out_of_kind, width_of_kind}

pub abs_power : (a : ℤ) (n : ℕ) → unsigned_abs (power a n) ≡ unsigned_abs a ^ n
abs_power a zero = sym (pow-zero (unsigned_abs a))
abs_power a (suc n) = unsigned_abs-mul a (power a n) ∙ ap (λ m. unsigned_abs a * m) (abs_power a n) ∙ mul_comm (unsigned_abs a) (unsigned_abs a ^ n) ∙ sym (pow-suc (unsigned_abs a) n)

power_pos : (a n : ℕ) → power (pos a) n ≡ pos (a ^ n)
power_pos a zero = ap pos (sym (pow-zero a))
power_pos a (suc n) = ap (λ z. pos a *ℤ z) (power_pos a n) ∙ ap pos (mul_comm a (a ^ n) ∙ sym (pow-suc a n))

neg_times_pos : (m p : ℕ) → negsuc m *ℤ pos p ≡ neg_ℤ (pos (suc m * p))
neg_times_pos m p = refl

neg_times_neg : (m p : ℕ) → negsuc m *ℤ neg_ℤ (pos p) ≡ pos (suc m * p)
neg_times_neg m zero = let z : suc m * 0 ≡ 0 = omega arith in rw z refl
neg_times_neg m (suc p) = refl

abbrev signed_power : ℕ → ℕ → ℕ → ℤ
signed_power m n r = cond (nat_eq r 0) (pos (suc m ^ n)) (neg_ℤ (pos (suc m ^ n)))

next : (m n r s : ℕ) → n % 2 ≡ r → suc n % 2 ≡ s → power (negsuc m) n ≡ signed_power m n r → power (negsuc m) (suc n) ≡ signed_power m (suc n) s
next m n zero zero e f h = absurd (omega arith)
next m n zero (suc zero) e f h = ap (λ z. negsuc m *ℤ z) h ∙ ap (λ p. neg_ℤ (pos p)) (mul_comm (suc m) (suc m ^ n) ∙ sym (pow-suc (suc m) n))
next m n zero (suc (suc s)) e f h = absurd (omega arith)
next m n (suc zero) zero e f h = ap (λ z. negsuc m *ℤ z) h ∙ neg_times_neg m (suc m ^ n) ∙ ap pos (mul_comm (suc m) (suc m ^ n) ∙ sym (pow-suc (suc m) n))
next m n (suc zero) (suc s) e f h = absurd (omega arith)
next m n (suc (suc r)) s e f h = absurd (omega arith)

power_neg : (m n : ℕ) → power (negsuc m) n ≡ signed_power m n (n % 2)
power_neg m zero = ap pos (sym (pow-zero (suc m)))
power_neg m (suc n) = next m n (n % 2) (suc n % 2) refl refl (power_neg m n)

pub power-int_pow : (a : ℤ) (n : ℕ) → power a n ≡ int_pow a n
power-int_pow (pos a) n = power_pos a n
power-int_pow (negsuc a) n = power_neg a n

half_some : (w : Width) → 1 ≤ half_of w
half_some W1 = lit≤ tt
half_some W2 = lit≤ tt
half_some W4 = lit≤ tt
half_some W8 = lit≤ tt

half_most : (w : Width) → half_of w ≤ 2 ^ 63
half_most W1 = lit≤ tt
half_most W2 = lit≤ tt
half_most W4 = lit≤ tt
half_most W8 = lit≤ tt

below : (a h : ℕ) → suc h < suc a → nat_le a h ≡ false
below a h l = grind arith

pub far : (h : ℕ) (v : ℤ) → 1 ≤ h → h < unsigned_abs v → (le_z (neg_ℤ (pos h)) v && lt_z v (pos h)) ≡ false
far zero v s l = absurd (omega arith)
far (suc h) (pos a) s l = grind arith
far (suc h) (negsuc a) s l = let no : nat_le a h ≡ false = below a h l in rw no refl

pub too_large : (v : ℤ) (kind : ℕ) → 2 ^ 63 < unsigned_abs v → out_of_kind ≡ in_kind v kind
too_large v kind l =
    let w = width_of_kind kind in
    let no : has kind v ≡ false = far (half_of (width_of_kind kind)) v (half_some (width_of_kind kind)) (omega (arith, half_most (width_of_kind kind))) in
    rw no refl

power_most : (a n : ℕ) → 2 ≤ a → 127 ≤ n → 2 ^ 63 < a ^ n
power_most a n h k =
    let one = pow-le-pow_right {n = 2} (lit< tt) {i = 127} {j = n} k in
    let two = pow-le-pow_left {n = 2} {m = a} h n in
    let small : 2 ^ 63 < 2 ^ 127 = lit< tt in
    omega (arith, one, two, small)

pub not_unit : (n : ℕ) → nat_le n 1 ≡ false → 2 ≤ n
not_unit n h = grind arith

pub power_too_large : (a : ℤ) (n kind : ℕ) → nat_le (unsigned_abs a) 1 ≡ false → 127 ≤ n → out_of_kind ≡ in_kind (power a n) kind
power_too_large a n kind h k = too_large (power a n) kind (rw (abs_power a n) (power_most (unsigned_abs a) n (not_unit (unsigned_abs a) h) k))

not_none : (n : ℕ) → 2 ≤ n → nat_eq n 0 ≡ false
not_none n h = grind arith

inverse : (v : ℤ) (kind : ℕ) → 2 ≤ unsigned_abs v → in_kind (pos 0) kind ≡ quotient (pos 1) v kind
inverse (pos zero) kind h = absurd (omega arith)
inverse (pos (suc m)) kind h =
    let z = not_none (suc m) h in
    let d : 1 / suc m ≡ 0 = div-eq_of_lt {n = 1} {m = suc m} (omega arith) in
    rw (z, d) refl
inverse (negsuc m) kind h =
    let z = not_none (suc m) h in
    let d : 1 / suc m ≡ 0 = div-eq_of_lt {n = 1} {m = suc m} (omega arith) in
    rw (z, d) refl

pub inverse_none : (a : ℤ) (n kind : ℕ) → nat_le (unsigned_abs a) 1 ≡ false → 1 ≤ n → in_kind (pos 0) kind ≡ quotient (pos 1) (power a n) kind
inverse_none a zero kind h k = absurd (omega arith)
inverse_none a (suc n) kind h k =
    let two = not_unit (unsigned_abs a) h in
    let some = one-le-pow n (unsigned_abs a) (omega arith) in
    let more : 2 ≤ unsigned_abs a ^ suc n = rw pow-suc (omega (arith, mul-le-mul_left (unsigned_abs a) some, mul_comm (unsigned_abs a) (unsigned_abs a ^ n))) in
    inverse (power a (suc n)) kind (rw (abs_power a (suc n)) more)

pub one_power : (n : ℕ) → 1 ^ n ≡ 1
one_power zero = pow-zero 1
one_power (suc n) = rw (pow-suc, one_power n) refl

pub unit_zero : (a : ℤ) (n : ℕ) → n ≡ 0 → pos 1 ≡ power a n
unit_zero a n e = rw e refl

pub unit_plain : (a : ℤ) (n : ℕ) → nat_le (unsigned_abs a) 1 ≡ true → (n ≡ 0 → ⊥) → lt_z a (pos 0) ≡ false → a ≡ power a n
unit_plain a zero u e f = absurd (e refl)
unit_plain (pos zero) (suc n) u e f = sym (power_pos 0 (suc n) ∙ ap pos (pow-suc 0 n ∙ omega arith))
unit_plain (pos (suc zero)) (suc n) u e f = sym (power_pos 1 (suc n) ∙ ap pos (one_power (suc n)))
unit_plain (pos (suc (suc m))) (suc n) u e f = absurd (grind arith)
unit_plain (negsuc m) (suc n) u e f = absurd (cc)

pub unit_even : (a : ℤ) (n : ℕ) → nat_le (unsigned_abs a) 1 ≡ true → lt_z a (pos 0) ≡ true → n % 2 ≡ 0 → pos 1 ≡ power a n
unit_even (pos m) n u f e = absurd (grind arith)
unit_even (negsuc zero) n u f e = sym (power_neg 0 n ∙ rw (e, one_power) refl)
unit_even (negsuc (suc m)) n u f e = absurd (grind arith)

pub unit_odd : (a : ℤ) (n : ℕ) → nat_le (unsigned_abs a) 1 ≡ true → lt_z a (pos 0) ≡ true → (n % 2 ≡ 0 → ⊥) → a ≡ power a n
unit_odd (pos m) n u f e = absurd (grind arith)
unit_odd (negsuc zero) n u f e = let o : n % 2 ≡ 1 = omega arith in sym (power_neg 0 n ∙ rw (o, one_power) refl)
unit_odd (negsuc (suc m)) n u f e = absurd (grind arith)

pub raised_back : (a b : ℤ) (kind : ℕ) → lt_z b (pos 0) ≡ true → quotient (pos 1) (power a (unsigned_abs b)) kind ≡ raised a b kind
raised_back a (pos m) kind f = absurd (grind arith)
raised_back a (negsuc m) kind f = refl

pub some_size : (b : ℤ) → lt_z b (pos 0) ≡ true → 1 ≤ unsigned_abs b
some_size (pos m) f = absurd (grind arith)
some_size (negsuc m) f = omega arith

pub raised_on : (a b : ℤ) (kind : ℕ) → lt_z b (pos 0) ≡ false → in_kind (power a (unsigned_abs b)) kind ≡ raised a b kind
raised_on a (pos m) kind f = refl
raised_on a (negsuc m) kind f = absurd (cc)
