-- Bits of numbers that are joined, turned and moved.
use Rattle.std.proofs.Common.{◌≡◌, ℕ, ℤ, pos, negsuc, neg_ℤ, suc, zero, ◌+◌, ◌-◌, ◌*◌, ◌%◌, ◌^◌, ◌<◌, ◌-ℤ◌, true, not, ◌&&◌, ◌||◌, nat_eq, min, max, refl, ap, ◌∙◌, arith, Some}
use Rattle.std.specs.Int.{bit_at, w8, w16, w32, w64}
use Rattle.std.specs.Prelude.{bit_and, bit_or, bit_xor}
use Rattle.std.proofs.Math.Nat.{mod-eq_of_lt}
use Rattle.std.proofs.lemmas.Int.{ints}
use Rattle.std.proofs.lemmas.Nat.{or_lt, xor_lt, and_le_l}
use Rattle.std.proofs.lemmas.Nat.Bits.{bit_at_and, bit_at_or, bit_at_xor, bit_at-lt, bit_at_not}
use Rattle.jf_base.specs.declared.numbers.Width.{Width}
use Rattle.jf_base.specs.declared.numbers.Width.TheVariants.{W1, W2, W4, W8}
use Rattle.jf_base.specs.Numbers.{half_of, modulus_of, size_of_width}
use Rattle.f_value.specs.Answers.{Gives}
use Rattle.f_value.specs.Bits.{bit_size, pattern, has_bit}
use Rattle.f_value.specs.Intrinsics.{bits_of, of_bits}
use Rattle.f_value.specs.Values.{has, in_kind, width_of_kind}
use Rattle.f_value.proofs.Patterns.{two_halves, within_pos, within_neg, is_within_pos, is_within_neg, pattern-below, pattern_less, bits_of-pattern, gives_bits}

both : (x y : ℕ) → x < 2 → y < 2 → nat_eq (min x y) 1 ≡ (nat_eq x 1 && nat_eq y 1)
both zero zero h k = refl
both zero (suc zero) h k = refl
both (suc zero) zero h k = refl
both (suc zero) (suc zero) h k = refl
both (suc (suc x)) y h k = absurd (omega arith)
both zero (suc (suc y)) h k = absurd (omega arith)
both (suc zero) (suc (suc y)) h k = absurd (omega arith)

either : (x y : ℕ) → x < 2 → y < 2 → nat_eq (max x y) 1 ≡ (nat_eq x 1 || nat_eq y 1)
either zero zero h k = refl
either zero (suc zero) h k = refl
either (suc zero) zero h k = refl
either (suc zero) (suc zero) h k = refl
either (suc (suc x)) y h k = absurd (omega arith)
either zero (suc (suc y)) h k = absurd (omega arith)
either (suc zero) (suc (suc y)) h k = absurd (omega arith)

apart : (x y : ℕ) → x < 2 → y < 2 → nat_eq ((x + y) % 2) 1 ≡ ((nat_eq x 1 && not (nat_eq y 1)) || (not (nat_eq x 1) && nat_eq y 1))
apart zero zero h k = refl
apart zero (suc zero) h k = refl
apart (suc zero) zero h k = refl
apart (suc zero) (suc zero) h k = refl
apart (suc (suc x)) y h k = absurd (omega arith)
apart zero (suc (suc y)) h k = absurd (omega arith)
apart (suc zero) (suc (suc y)) h k = absurd (omega arith)

other : (x : ℕ) → x < 2 → nat_eq (1 - x) 1 ≡ not (nat_eq x 1)
other zero h = refl
other (suc zero) h = refl
other (suc (suc x)) h = absurd (omega arith)

other_way : (x : ℕ) → x < 2 → nat_eq x 1 ≡ not (nat_eq (1 - x) 1)
other_way zero h = refl
other_way (suc zero) h = refl
other_way (suc (suc x)) h = absurd (omega arith)

-- a bit of a number below the modulus
kept : (r n m k : ℕ) → r ≡ n % m → n < m → bit_at r k ≡ bit_at n k
kept r n m k e l = rw (e, mod-eq_of_lt {n = n} {m = m} l) refl

pub iand_joins : (a b : ℤ) (kind : ℕ) → has kind a ≡ true → has kind b ≡ true
    → Gives (Some (of_bits (bit_and (bits_of a kind) (bits_of b kind)) kind)) kind (λ r. (k : ℕ) → k < bit_size kind → has_bit r (bit_size kind) k ≡ (has_bit a (bit_size kind) k && has_bit b (bit_size kind) k))
iand_joins a b kind p q =
    let less : bit_and (pattern a (bit_size kind)) (pattern b (bit_size kind)) < 2 ^ bit_size kind = omega (arith, and_le_l (pattern a (bit_size kind)) (pattern b (bit_size kind)), pattern_less a kind p) in
    rw (bits_of-pattern a kind p, bits_of-pattern b kind q)
    (gives_bits (bit_and (pattern a (bit_size kind)) (pattern b (bit_size kind))) kind (λ r. (k : ℕ) → k < bit_size kind → has_bit r (bit_size kind) k ≡ (has_bit a (bit_size kind) k && has_bit b (bit_size kind) k))
    (λ r h e k l. ap (λ (z : ℕ). nat_eq z 1) (kept (pattern r (bit_size kind)) (bit_and (pattern a (bit_size kind)) (pattern b (bit_size kind))) (2 ^ bit_size kind) k e less ∙ bit_at_and (pattern a (bit_size kind)) (pattern b (bit_size kind)) k)
    ∙ both (bit_at (pattern a (bit_size kind)) k) (bit_at (pattern b (bit_size kind)) k) (bit_at-lt (pattern a (bit_size kind)) k) (bit_at-lt (pattern b (bit_size kind)) k)))

pub ior_joins : (a b : ℤ) (kind : ℕ) → has kind a ≡ true → has kind b ≡ true
    → Gives (Some (of_bits (bit_or (bits_of a kind) (bits_of b kind)) kind)) kind (λ r. (k : ℕ) → k < bit_size kind → has_bit r (bit_size kind) k ≡ (has_bit a (bit_size kind) k || has_bit b (bit_size kind) k))
ior_joins a b kind p q =
    let less : bit_or (pattern a (bit_size kind)) (pattern b (bit_size kind)) < 2 ^ bit_size kind = or_lt (bit_size kind) (pattern a (bit_size kind)) (pattern b (bit_size kind)) (pattern_less a kind p) (pattern_less b kind q) in
    rw (bits_of-pattern a kind p, bits_of-pattern b kind q)
    (gives_bits (bit_or (pattern a (bit_size kind)) (pattern b (bit_size kind))) kind (λ r. (k : ℕ) → k < bit_size kind → has_bit r (bit_size kind) k ≡ (has_bit a (bit_size kind) k || has_bit b (bit_size kind) k))
    (λ r h e k l. ap (λ (z : ℕ). nat_eq z 1) (kept (pattern r (bit_size kind)) (bit_or (pattern a (bit_size kind)) (pattern b (bit_size kind))) (2 ^ bit_size kind) k e less ∙ bit_at_or (pattern a (bit_size kind)) (pattern b (bit_size kind)) k)
    ∙ either (bit_at (pattern a (bit_size kind)) k) (bit_at (pattern b (bit_size kind)) k) (bit_at-lt (pattern a (bit_size kind)) k) (bit_at-lt (pattern b (bit_size kind)) k)))

pub ieor_joins : (a b : ℤ) (kind : ℕ) → has kind a ≡ true → has kind b ≡ true
    → Gives (Some (of_bits (bit_xor (bits_of a kind) (bits_of b kind)) kind)) kind (λ r. (k : ℕ) → k < bit_size kind → has_bit r (bit_size kind) k ≡ ((has_bit a (bit_size kind) k && not (has_bit b (bit_size kind) k)) || (not (has_bit a (bit_size kind) k) && has_bit b (bit_size kind) k)))
ieor_joins a b kind p q =
    let less : bit_xor (pattern a (bit_size kind)) (pattern b (bit_size kind)) < 2 ^ bit_size kind = xor_lt (bit_size kind) (pattern a (bit_size kind)) (pattern b (bit_size kind)) (pattern_less a kind p) (pattern_less b kind q) in
    rw (bits_of-pattern a kind p, bits_of-pattern b kind q)
    (gives_bits (bit_xor (pattern a (bit_size kind)) (pattern b (bit_size kind))) kind (λ r. (k : ℕ) → k < bit_size kind → has_bit r (bit_size kind) k ≡ ((has_bit a (bit_size kind) k && not (has_bit b (bit_size kind) k)) || (not (has_bit a (bit_size kind) k) && has_bit b (bit_size kind) k)))
    (λ r h e k l. ap (λ (z : ℕ). nat_eq z 1) (kept (pattern r (bit_size kind)) (bit_xor (pattern a (bit_size kind)) (pattern b (bit_size kind))) (2 ^ bit_size kind) k e less ∙ bit_at_xor (pattern a (bit_size kind)) (pattern b (bit_size kind)) k)
    ∙ apart (bit_at (pattern a (bit_size kind)) k) (bit_at (pattern b (bit_size kind)) k) (bit_at-lt (pattern a (bit_size kind)) k) (bit_at-lt (pattern b (bit_size kind)) k)))

-- what an operation in its kind gives
pub gives_in_kind : (v : ℤ) (kind : ℕ) (P : ℤ → Type 0) → has kind v ≡ true → P v → Gives (Some (in_kind v kind)) kind P
gives_in_kind v kind P h p = record { value = v; given = rw h refl; of_kind = h; meets = p }

turned_bit : (w : Width) (n k : ℕ) → n < modulus_of w → k < 8 * size_of_width w → bit_at (modulus_of w - 1 - n) k ≡ 1 - bit_at n k
turned_bit W1 n k l m = bit_at_not w8 n k l m
turned_bit W2 n k l m = bit_at_not w16 n k l m
turned_bit W4 n k l m = bit_at_not w32 n k l m
turned_bit W8 n k l m = bit_at_not w64 n k l m

turned_to_negative : (kind n k : ℕ) → n < modulus_of (width_of_kind kind) → k < bit_size kind → has_bit (negsuc n) (bit_size kind) k ≡ not (has_bit (pos n) (bit_size kind) k)
turned_to_negative kind n k l m =
    let e : modulus_of (width_of_kind kind) - suc n ≡ modulus_of (width_of_kind kind) - 1 - n = omega arith in
    rw (pattern-below (negsuc n) kind, e, turned_bit (width_of_kind kind) n k l m) (other (bit_at n k) (bit_at-lt n k))

turned_to_positive : (kind n k : ℕ) → n < modulus_of (width_of_kind kind) → k < bit_size kind → has_bit (pos n) (bit_size kind) k ≡ not (has_bit (negsuc n) (bit_size kind) k)
turned_to_positive kind n k l m =
    let e : modulus_of (width_of_kind kind) - suc n ≡ modulus_of (width_of_kind kind) - 1 - n = omega arith in
    rw (pattern-below (negsuc n) kind, e, turned_bit (width_of_kind kind) n k l m) (other_way (bit_at n k) (bit_at-lt n k))

abbrev Turned : ℕ → ℤ → ℤ → Type 0
Turned kind a r = (r ≡ negsuc 0 -ℤ a) × ((k : ℕ) → k < bit_size kind → has_bit r (bit_size kind) k ≡ not (has_bit a (bit_size kind) k))

less_than_all : (w : Width) (n : ℕ) → n < half_of w → n < modulus_of w
less_than_all w n l = omega (arith, two_halves w)

turns_as : (a r : ℤ) (kind : ℕ) (P : ℤ → Type 0) → neg_ℤ a -ℤ pos 1 ≡ r → has kind r ≡ true → P r → Gives (Some (in_kind (neg_ℤ a -ℤ pos 1) kind)) kind P
turns_as a r kind P e h p = rw e (gives_in_kind r kind P h p)

pub not_turns : (a : ℤ) (kind : ℕ) → has kind a ≡ true → Gives (Some (in_kind (neg_ℤ a -ℤ pos 1) kind)) kind (λ r. (r ≡ negsuc 0 -ℤ a) × ((k : ℕ) → k < bit_size kind → has_bit r (bit_size kind) k ≡ not (has_bit a (bit_size kind) k)))
not_turns (pos n) kind h =
    let l : n < half_of (width_of_kind kind) = within_pos (half_of (width_of_kind kind)) n h in
    turns_as (pos n) (negsuc n) kind (Turned kind (pos n)) (omega (arith, ints)) (is_within_neg (half_of (width_of_kind kind)) n l) (omega (arith, ints), λ k m. turned_to_negative kind n k (less_than_all (width_of_kind kind) n l) m)
not_turns (negsuc n) kind h =
    let l : n < half_of (width_of_kind kind) = within_neg (half_of (width_of_kind kind)) n h in
    turns_as (negsuc n) (pos n) kind (Turned kind (negsuc n)) (omega (arith, ints)) (is_within_pos (half_of (width_of_kind kind)) n l) (omega (arith, ints), λ k m. turned_to_positive kind n k (less_than_all (width_of_kind kind) n l) m)
