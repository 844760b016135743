-- Powers by squaring.
use Rattle.std.proofs.Common.{◌≡◌, ℕ, suc, zero, ◌+◌, ◌*◌, ◌/◌, ◌%◌, ◌^◌, ◌<◌, ◌≤◌, SomeIff, Option, Some, refl, ap, sym, ◌∙◌, arith, lit<}
use Rattle.std.proofs.Math.Nat.{pow-suc, pow-le-pow_right}
use Rattle.std.proofs.lemmas.Nat.{pow-add}

some : (n : ℕ) → (n ≡ 0 → ⊥) → 0 < n
some n h = omega arith

half_most : (n : ℕ) → n / 2 + n / 2 ≤ n
half_most n = omega arith

square : (s n : ℕ) → s ^ (n / 2 + n / 2) ≡ s ^ (n / 2) * s ^ (n / 2)
square s n = pow-add s (n / 2) (n / 2)

even : (s n : ℕ) → (n % 2 ≡ 1 → ⊥) → s ^ n ≡ s ^ (n / 2) * s ^ (n / 2)
even s n e = let d : n ≡ n / 2 + n / 2 = omega arith in ap (λ (k : ℕ). s ^ k) d ∙ square s n

odd : (s n : ℕ) → n % 2 ≡ 1 → s ^ n ≡ s ^ (n / 2) * s ^ (n / 2) * s
odd s n e = let d : n ≡ suc (n / 2 + n / 2) = omega arith in ap (λ (k : ℕ). s ^ k) d ∙ pow-suc s (n / 2 + n / 2) ∙ ap (λ (x : ℕ). x * s) (square s n)

pub power_of_zero : (s n : ℕ) → (n ≡ 0 → ⊥) → s ≡ 0 → SomeIff (Some 0) (s ^ n < 2 ^ 128) (s ^ n)
power_of_zero s zero h e = absurd (h refl)
power_of_zero s (suc n) h e = let o : 0 ^ suc n ≡ 0 = pow-suc 0 n ∙ omega arith in rw (e, o) (lit< tt, refl)

pub half_too_large : (s n : ℕ) → (s ≡ 0 → ⊥) → (s ^ (n / 2) < 2 ^ 128 → ⊥) → s ^ n < 2 ^ 128 → ⊥
half_too_large s n z h l = h (omega (arith, pow-le-pow_right {n = s} (some s z) {i = n / 2} {j = n} (omega arith)))

pub square_too_large : (s n h : ℕ) → (s ≡ 0 → ⊥) → h ≡ s ^ (n / 2) → (h * h < 2 ^ 128 → ⊥) → s ^ n < 2 ^ 128 → ⊥
square_too_large s n h z e f l =
    let m = pow-le-pow_right {n = s} (some s z) {i = n / 2 + n / 2} {j = n} (half_most n) in
    f (rw e (omega (arith, m, square s n)))

pub is_square : (s n h q : ℕ) → h ≡ s ^ (n / 2) → h * h < 2 ^ 128 → q ≡ h * h → (n % 2 ≡ 1 → ⊥) → SomeIff (Some q) (s ^ n < 2 ^ 128) (s ^ n)
is_square s n h q e l f p = let g : s ^ n ≡ h * h = even s n p ∙ ap (λ (x : ℕ). x * x) (sym e) in rw (g, f) (l, refl)

pub is_square_times : (s n h q : ℕ) (r : Option ℕ) → h ≡ s ^ (n / 2) → q ≡ h * h → n % 2 ≡ 1 → SomeIff r (q * s < 2 ^ 128) (q * s) → SomeIff r (s ^ n < 2 ^ 128) (s ^ n)
is_square_times s n h q r e f p t = let g : s ^ n ≡ q * s = odd s n p ∙ ap (λ (x : ℕ). x * x * s) (sym e) ∙ ap (λ (x : ℕ). x * s) (sym f) in rw g t
