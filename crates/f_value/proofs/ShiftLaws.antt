-- Shifts of numbers of a kind.
use Rattle.std.proofs.Common.{◌≡◌, ℕ, ℤ, pos, neg_ℤ, suc, zero, ◌+◌, ◌-◌, ◌*◌, ◌/◌, ◌%◌, ◌^◌, ◌<◌, ◌≤◌, Bool, true, false, ◌&&◌, nat_eq, nat_le, nat_lt, Some, refl, ap, sym, ◌∙◌, arith}
use Rattle.std.specs.Int.{bit_at}
use Rattle.std.proofs.Math.Nat.{mod-eq_of_lt, mul-mod_left, zero-mod, div-eq_of_lt, div-one}
use Rattle.std.proofs.lemmas.Nat.{pow_pos, shl-shr, shr-shr, shr_le, shr_split}
use Rattle.std.proofs.lemmas.Nat.Bits.{bit_at-zero, bit_at_above, bit_at_cat_low, bit_at_cat_high}
use Rattle.f_value.specs.declared.value.Did.TheVariants.{Done}
use Rattle.f_value.specs.declared.value.FValue.TheVariants.{Int}
use Rattle.jf_base.specs.declared.numbers.Width.{Width}
use Rattle.jf_base.specs.declared.numbers.Width.TheVariants.{W1, W2, W4, W8}
use Rattle.jf_base.specs.Numbers.{half_of, modulus_of}
use Rattle.f_value.specs.Answers.{Gives}
use Rattle.f_value.specs.Bits.{bit_size, pattern, has_bit}
use Rattle.f_value.specs.Intrinsics.{of_bits, shifted, shift_too_far}
use Rattle.f_value.specs.Values.{has, width_of_kind}
use Rattle.f_value.proofs.Patterns.{a_power, signed_at, pattern_less, bits_of-pattern, number-pattern, gives_bits}

reaches : (s w : ℕ) → s ≤ w → nat_le s w ≡ true
reaches s w l = grind arith

exceeds : (s w : ℕ) → w < s → nat_le s w ≡ false
exceeds s w l = grind arith

pub goes_left : (a : ℤ) (s kind : ℕ) → has kind a ≡ true → s ≤ bit_size kind → shifted a (pos s) kind ≡ of_bits (pattern a (bit_size kind) * 2 ^ s) kind
goes_left a s kind h l = rw (reaches s (bit_size kind) l, bits_of-pattern a kind h) refl

times_one : (x : ℕ) → x * 2 ^ 0 ≡ x / 2 ^ 0
times_one x = let d : x / 1 ≡ x = div-one x in rw d (omega arith)

pub goes_right : (a : ℤ) (s kind : ℕ) → has kind a ≡ true → s ≤ bit_size kind → shifted a (neg_ℤ (pos s)) kind ≡ of_bits (pattern a (bit_size kind) / 2 ^ s) kind
goes_right a zero kind h l = rw (reaches 0 (bit_size kind) l, bits_of-pattern a kind h) (ap (λ (n : ℕ). of_bits n kind) (times_one (pattern a (bit_size kind))))
goes_right a (suc s) kind h l = rw (reaches (suc s) (bit_size kind) l, bits_of-pattern a kind h) refl

pub too_far_left : (a : ℤ) (s kind : ℕ) → bit_size kind < s → shifted a (pos s) kind ≡ shift_too_far
too_far_left a s kind l = rw (exceeds s (bit_size kind) l) refl

pub too_far_right : (a : ℤ) (s kind : ℕ) → bit_size kind < s → shifted a (neg_ℤ (pos s)) kind ≡ shift_too_far
too_far_right a zero kind l = absurd (omega arith)
too_far_right a (suc s) kind l = rw (exceeds (suc s) (bit_size kind) l) refl

-- the low bits of a number are those of what is left of it
low_bits : (n w k : ℕ) → k < w → bit_at (n % 2 ^ w) k ≡ bit_at n k
low_bits n w k l = sym (bit_at_cat_low (n / 2 ^ w) w (n % 2 ^ w) k l) ∙ ap (λ (z : ℕ). bit_at z k) (shr_split n w)

none_added : (x s : ℕ) → x * 2 ^ s ≡ x * 2 ^ s + 0
none_added x s = omega arith

is_below : (s k : ℕ) → nat_le s k ≡ false → k < s
is_below s k e = grind arith

is_above : (s k : ℕ) → nat_le s k ≡ true → s ≤ k
is_above s k e = grind arith

left_bit : (x s k : ℕ) (b : Bool) → nat_le s k ≡ b → nat_eq (bit_at (x * 2 ^ s) k) 1 ≡ (b && nat_eq (bit_at x (k - s)) 1)
left_bit x s k true e = ap (λ (z : ℕ). nat_eq z 1) (ap (λ (z : ℕ). bit_at z k) (none_added x s) ∙ bit_at_cat_high x s 0 k (pow_pos s) (is_above s k e))
left_bit x s k false e = ap (λ (z : ℕ). nat_eq z 1) (ap (λ (z : ℕ). bit_at z k) (none_added x s) ∙ bit_at_cat_low x s 0 k (is_below s k e) ∙ bit_at-zero k)

right_bit : (x s k w : ℕ) (b : Bool) → x < 2 ^ w → nat_lt (k + s) w ≡ b → nat_eq (bit_at (x / 2 ^ s) k) 1 ≡ (b && nat_eq (bit_at x (k + s)) 1)
right_bit x s k w true l e = let c : s + k ≡ k + s = omega arith in ap (λ (z : ℕ). nat_eq (z % 2) 1) (shr-shr x s k ∙ ap (λ (z : ℕ). x / 2 ^ z) c)
right_bit x s k w false l e =
    let c : s + k ≡ k + s = omega arith in
    let far : w ≤ k + s = grind arith in
    ap (λ (z : ℕ). nat_eq (z % 2) 1) (shr-shr x s k ∙ ap (λ (z : ℕ). x / 2 ^ z) c) ∙ ap (λ (z : ℕ). nat_eq z 1) (bit_at_above x w (k + s) l far)

abbrev pub MovedLeft : ℤ → ℕ → ℕ → ℤ → Type 0
MovedLeft a s kind r = (pattern r (bit_size kind) ≡ pattern a (bit_size kind) * 2 ^ s % 2 ^ bit_size kind)
    × ((k : ℕ) → k < bit_size kind → has_bit r (bit_size kind) k ≡ (nat_le s k && has_bit a (bit_size kind) (k - s)))

pub shifts_left : (a : ℤ) (s kind : ℕ) → has kind a ≡ true → s ≤ bit_size kind → Gives (Some (shifted a (pos s) kind)) kind (MovedLeft a s kind)
shifts_left a s kind h l =
    rw (goes_left a s kind h l)
    (gives_bits (pattern a (bit_size kind) * 2 ^ s) kind (MovedLeft a s kind)
    (λ r g e. (e, λ k m. ap (λ (z : ℕ). nat_eq z 1) (ap (λ (z : ℕ). bit_at z k) e ∙ low_bits (pattern a (bit_size kind) * 2 ^ s) (bit_size kind) k m) ∙ left_bit (pattern a (bit_size kind)) s k (nat_le s k) refl)))

fewer : (x s m : ℕ) → x < m → x / 2 ^ s < m
fewer x s m l = omega (arith, shr_le x s)

abbrev pub MovedRight : ℤ → ℕ → ℕ → ℤ → Type 0
MovedRight a s kind r = (pattern r (bit_size kind) ≡ pattern a (bit_size kind) / 2 ^ s)
    × ((k : ℕ) → k < bit_size kind → has_bit r (bit_size kind) k ≡ (nat_lt (k + s) (bit_size kind) && has_bit a (bit_size kind) (k + s)))

pub shifts_right : (a : ℤ) (s kind : ℕ) → has kind a ≡ true → s ≤ bit_size kind → Gives (Some (shifted a (neg_ℤ (pos s)) kind)) kind (MovedRight a s kind)
shifts_right a s kind h l =
    let kept : pattern a (bit_size kind) / 2 ^ s % 2 ^ bit_size kind ≡ pattern a (bit_size kind) / 2 ^ s = mod-eq_of_lt {n = pattern a (bit_size kind) / 2 ^ s} {m = 2 ^ bit_size kind} (fewer (pattern a (bit_size kind)) s (2 ^ bit_size kind) (pattern_less a kind h)) in
    rw (goes_right a s kind h l)
    (gives_bits (pattern a (bit_size kind) / 2 ^ s) kind (MovedRight a s kind)
    (λ r g e. (e ∙ kept, λ k m. ap (λ (z : ℕ). nat_eq (bit_at z k) 1) (e ∙ kept) ∙ right_bit (pattern a (bit_size kind)) s k (bit_size kind) (nat_lt (k + s) (bit_size kind)) (pattern_less a kind h) refl)))

again : (a : ℤ) (n kind : ℕ) → has kind a ≡ true → n ≡ pattern a (bit_size kind) → of_bits n kind ≡ Done (Int a kind)
again a n kind h e = ap (λ (z : ℕ). of_bits z kind) e ∙ ap (λ (v : ℤ). Done (Int v kind)) (number-pattern a kind h)

pub comes_back_from_left : (a : ℤ) (s kind : ℕ) → has kind a ≡ true → s ≤ bit_size kind → pattern a (bit_size kind) * 2 ^ s < 2 ^ bit_size kind → Gives (Some (shifted a (pos s) kind)) kind (λ r. Some (shifted r (neg_ℤ (pos s)) kind) ≡ Some (Done (Int a kind)))
comes_back_from_left a s kind h l w =
    rw (goes_left a s kind h l)
    (gives_bits (pattern a (bit_size kind) * 2 ^ s) kind (λ r. Some (shifted r (neg_ℤ (pos s)) kind) ≡ Some (Done (Int a kind)))
    (λ r g e. ap Some (goes_right r s kind g l ∙ again a (pattern r (bit_size kind) / 2 ^ s) kind h
    (ap (λ (z : ℕ). z / 2 ^ s) (e ∙ mod-eq_of_lt {n = pattern a (bit_size kind) * 2 ^ s} {m = 2 ^ bit_size kind} w) ∙ shl-shr (pattern a (bit_size kind)) s))))

split : (x s : ℕ) → x % 2 ^ s ≡ 0 → x / 2 ^ s * 2 ^ s ≡ x
split x s e = omega (arith, shr_split x s)

pub comes_back_from_right : (a : ℤ) (s kind : ℕ) → has kind a ≡ true → s ≤ bit_size kind → pattern a (bit_size kind) % 2 ^ s ≡ 0 → Gives (Some (shifted a (neg_ℤ (pos s)) kind)) kind (λ r. Some (shifted r (pos s) kind) ≡ Some (Done (Int a kind)))
comes_back_from_right a s kind h l w =
    rw (goes_right a s kind h l)
    (gives_bits (pattern a (bit_size kind) / 2 ^ s) kind (λ r. Some (shifted r (pos s) kind) ≡ Some (Done (Int a kind)))
    (λ r g e. ap Some (goes_left r s kind g l ∙ again a (pattern r (bit_size kind) * 2 ^ s) kind h
    (ap (λ (z : ℕ). z * 2 ^ s) (e ∙ mod-eq_of_lt {n = pattern a (bit_size kind) / 2 ^ s} {m = 2 ^ bit_size kind} (fewer (pattern a (bit_size kind)) s (2 ^ bit_size kind) (pattern_less a kind h))) ∙ split (pattern a (bit_size kind)) s w))))

no_sign : (w : Width) → signed_at (half_of w) (modulus_of w) 0 ≡ pos 0
no_sign W1 = refl
no_sign W2 = refl
no_sign W4 = refl
no_sign W8 = refl

nothing : (n kind : ℕ) → n % modulus_of (width_of_kind kind) ≡ 0 → of_bits n kind ≡ Done (Int (pos 0) kind)
nothing n kind e = ap (λ (z : ℕ). Done (Int (signed_at (half_of (width_of_kind kind)) (modulus_of (width_of_kind kind)) z) kind)) e ∙ ap (λ (v : ℤ). Done (Int v kind)) (no_sign (width_of_kind kind))

itself : (n : ℕ) → n ≤ n
itself n = omega arith

pub emptied_left : (a : ℤ) (kind : ℕ) → has kind a ≡ true → shifted a (pos (bit_size kind)) kind ≡ Done (Int (pos 0) kind)
emptied_left a kind h =
    goes_left a (bit_size kind) kind h (itself (bit_size kind))
    ∙ nothing (pattern a (bit_size kind) * 2 ^ bit_size kind) kind (ap (λ (m : ℕ). pattern a (bit_size kind) * m % modulus_of (width_of_kind kind)) (a_power (width_of_kind kind)) ∙ mul-mod_left (pattern a (bit_size kind)) (modulus_of (width_of_kind kind)))

pub emptied_right : (a : ℤ) (kind : ℕ) → has kind a ≡ true → shifted a (neg_ℤ (pos (bit_size kind))) kind ≡ Done (Int (pos 0) kind)
emptied_right a kind h =
    goes_right a (bit_size kind) kind h (itself (bit_size kind))
    ∙ nothing (pattern a (bit_size kind) / 2 ^ bit_size kind) kind (ap (λ (n : ℕ). n % modulus_of (width_of_kind kind)) (div-eq_of_lt {n = pattern a (bit_size kind)} {m = 2 ^ bit_size kind} (pattern_less a kind h)) ∙ zero-mod (modulus_of (width_of_kind kind)))
