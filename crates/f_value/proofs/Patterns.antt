-- Numbers of a kind and their bits.
use Rattle.std.proofs.Common.{◌≡◌, ℕ, ℤ, pos, negsuc, neg_ℤ, suc, zero, ◌+◌, ◌-◌, ◌*◌, ◌%◌, ◌^◌, ◌<◌, ◌≤◌, ◌-ℤ◌, Bool, true, false, ◌&&◌, if◌then◌else◌, nat_le, unsigned_abs, Some, refl, ap, sym, ◌∙◌, arith, lit≤}
use Rattle.std.specs.Int.{int_rem_euclid}
use Rattle.std.specs.Int.Signed.{le_z, lt_z}
use Rattle.std.proofs.Math.Nat.{mod-eq_of_lt}
use Rattle.std.proofs.lemmas.Int.{ints}
use Rattle.std.proofs.lemmas.Nat.{mod_below}
use Rattle.jf_base.specs.declared.numbers.Width.{Width}
use Rattle.jf_base.specs.declared.numbers.Width.TheVariants.{W1, W2, W4, W8}
use Rattle.jf_base.specs.Numbers.{half_of, modulus_of, size_of_width}
use Rattle.f_value.specs.Answers.{Gives}
use Rattle.f_value.specs.Bits.{bit_size, pattern}
use Rattle.f_value.specs.Intrinsics.{bits_of, of_bits}
use Rattle.f_value.specs.Values.{has, width_of_kind}

-- the bits of a number below a modulus, and the number of such bits, by half of it
abbrev pub below : ℕ → ℤ → ℕ
below m (pos n) = n
below m (negsuc n) = m - suc n

abbrev pub signed_at : ℕ → ℕ → ℕ → ℤ
signed_at h m n = if nat_le h n then pos n -ℤ pos m else pos n

abbrev pub in_half : ℕ → ℤ → Bool
in_half h v = le_z (neg_ℤ (pos h)) v && lt_z v (pos h)

pub two_halves : (w : Width) → half_of w + half_of w ≡ modulus_of w
two_halves W1 = refl
two_halves W2 = refl
two_halves W4 = refl
two_halves W8 = refl

pub a_power : (w : Width) → 2 ^ (8 * size_of_width w) ≡ modulus_of w
a_power W1 = refl
a_power W2 = refl
a_power W4 = refl
a_power W8 = refl

some_half : (w : Width) → 1 ≤ half_of w
some_half W1 = lit≤ tt
some_half W2 = lit≤ tt
some_half W4 = lit≤ tt
some_half W8 = lit≤ tt

pub within_pos : (h n : ℕ) → in_half h (pos n) ≡ true → n < h
within_pos zero n e = grind (arith, ints)
within_pos (suc h) n e = grind (arith, ints)

pub within_neg : (h n : ℕ) → in_half h (negsuc n) ≡ true → n < h
within_neg zero n e = absurd (cc)
within_neg (suc h) n e = grind (arith, ints)

pub is_within_pos : (h n : ℕ) → n < h → in_half h (pos n) ≡ true
is_within_pos zero n e = absurd (omega arith)
is_within_pos (suc h) n e = grind (arith, ints)

pub is_within_neg : (h n : ℕ) → n < h → in_half h (negsuc n) ≡ true
is_within_neg zero n e = absurd (omega arith)
is_within_neg (suc h) n e = grind (arith, ints)

turned : (m n : ℕ) → n < m → pos n -ℤ pos m ≡ negsuc (m - suc n)
turned m n l = omega (arith, ints)

high : (h n : ℕ) → h ≤ n → nat_le h n ≡ true
high h n l = grind arith

low : (h n : ℕ) → n < h → nat_le h n ≡ false
low h n l = grind arith

is_high : (h n : ℕ) → nat_le h n ≡ true → h ≤ n
is_high h n e = grind arith

is_low : (h n : ℕ) → nat_le h n ≡ false → n < h
is_low h n e = grind arith

signed_below_at : (h m n : ℕ) (b : Bool) → nat_le h n ≡ b → n < m → below m (if b then pos n -ℤ pos m else pos n) ≡ n
signed_below_at h m n true e l = rw (turned m n l) (omega arith)
signed_below_at h m n false e l = refl

pub below-signed : (h m n : ℕ) → n < m → below m (signed_at h m n) ≡ n
below-signed h m n l = signed_below_at h m n (nat_le h n) refl l

within_at : (h m n : ℕ) (b : Bool) → nat_le h n ≡ b → h + h ≡ m → n < m → in_half h (if b then pos n -ℤ pos m else pos n) ≡ true
within_at h m n true e d l = let k : h ≤ n = is_high h n e in rw (turned m n l) (is_within_neg h (m - suc n) (omega arith))
within_at h m n false e d l = is_within_pos h n (is_low h n e)

pub within-signed : (h m n : ℕ) → h + h ≡ m → n < m → in_half h (signed_at h m n) ≡ true
within-signed h m n d l = within_at h m n (nat_le h n) refl d l

pub signed-below : (h m : ℕ) (v : ℤ) → h + h ≡ m → in_half h v ≡ true → signed_at h m (below m v) ≡ v
signed-below h m (pos n) d e = let no : nat_le h n ≡ false = low h n (within_pos h n e) in rw no refl
signed-below h m (negsuc n) d e =
    let l : n < h = within_neg h n e in
    let yes : nat_le h (m - suc n) ≡ true = high h (m - suc n) (omega arith) in
    rw yes (omega (arith, ints))

pub below_less : (h m : ℕ) (v : ℤ) → h + h ≡ m → in_half h v ≡ true → below m v < m
below_less h m (pos n) d e = let l : n < h = within_pos h n e in omega arith
below_less h m (negsuc n) d e = let l : n < h = within_neg h n e in omega arith

pub residue_below : (h m : ℕ) (v : ℤ) → h + h ≡ m → in_half h v ≡ true → unsigned_abs (int_rem_euclid v (pos m)) ≡ below m v
residue_below h m (pos n) d e =
    let l : n < h = within_pos h n e in
    let k : n < m = omega arith in
    mod-eq_of_lt {n = n} {m = m} k
residue_below h m (negsuc n) d e =
    let l : n < h = within_neg h n e in
    let k : n < m = omega arith in
    let r : n % m ≡ n = mod-eq_of_lt {n = n} {m = m} k in
    rw r (omega arith)

pattern_at : (v : ℤ) (bits m : ℕ) → 2 ^ bits ≡ m → pattern v bits ≡ below m v
pattern_at (pos n) bits m e = refl
pattern_at (negsuc n) bits m e = ap (λ (z : ℕ). z - suc n) e

pub pattern-below : (v : ℤ) (kind : ℕ) → pattern v (bit_size kind) ≡ below (modulus_of (width_of_kind kind)) v
pattern-below v kind = pattern_at v (bit_size kind) (modulus_of (width_of_kind kind)) (a_power (width_of_kind kind))

pub pattern_less : (v : ℤ) (kind : ℕ) → has kind v ≡ true → pattern v (bit_size kind) < 2 ^ bit_size kind
pattern_less v kind h =
    let l : below (modulus_of (width_of_kind kind)) v < modulus_of (width_of_kind kind) = below_less (half_of (width_of_kind kind)) (modulus_of (width_of_kind kind)) v (two_halves (width_of_kind kind)) h in
    rw (pattern-below v kind, a_power (width_of_kind kind)) l

-- the bits that the code takes are those of two's complement
pub bits_of-pattern : (v : ℤ) (kind : ℕ) → has kind v ≡ true → bits_of v kind ≡ pattern v (bit_size kind)
bits_of-pattern v kind h =
    residue_below (half_of (width_of_kind kind)) (modulus_of (width_of_kind kind)) v (two_halves (width_of_kind kind)) h
    ∙ sym (pattern-below v kind)

-- the number of the kind that these bits are
abbrev pub number_of_bits : ℕ → ℕ → ℤ
number_of_bits n kind = signed_at (half_of (width_of_kind kind)) (modulus_of (width_of_kind kind)) (n % modulus_of (width_of_kind kind))

some_modulus : (w : Width) → 0 < modulus_of w
some_modulus w = omega (arith, two_halves w, some_half w)

small : (n kind : ℕ) → n % modulus_of (width_of_kind kind) < modulus_of (width_of_kind kind)
small n kind = mod_below n (modulus_of (width_of_kind kind)) (some_modulus (width_of_kind kind))

pub pattern-number : (n kind : ℕ) → pattern (number_of_bits n kind) (bit_size kind) ≡ n % 2 ^ bit_size kind
pattern-number n kind =
    pattern-below (number_of_bits n kind) kind
    ∙ below-signed (half_of (width_of_kind kind)) (modulus_of (width_of_kind kind)) (n % modulus_of (width_of_kind kind)) (small n kind)
    ∙ ap (λ (m : ℕ). n % m) (sym (a_power (width_of_kind kind)))

pub number-pattern : (v : ℤ) (kind : ℕ) → has kind v ≡ true → number_of_bits (pattern v (bit_size kind)) kind ≡ v
number-pattern v kind h =
    ap (λ (n : ℕ). signed_at (half_of (width_of_kind kind)) (modulus_of (width_of_kind kind)) n)
    (mod-eq_of_lt {n = pattern v (bit_size kind)} {m = modulus_of (width_of_kind kind)} (rw (a_power (width_of_kind kind)) at (pattern_less v kind h)) ∙ pattern-below v kind)
    ∙ signed-below (half_of (width_of_kind kind)) (modulus_of (width_of_kind kind)) v (two_halves (width_of_kind kind)) h

-- what bits give
pub gives_bits : (n kind : ℕ) (P : ℤ → Type 0) → ((r : ℤ) → has kind r ≡ true → pattern r (bit_size kind) ≡ n % 2 ^ bit_size kind → P r) → Gives (Some (of_bits n kind)) kind P
gives_bits n kind P f =
    let in_kind : has kind (number_of_bits n kind) ≡ true = within-signed (half_of (width_of_kind kind)) (modulus_of (width_of_kind kind)) (n % modulus_of (width_of_kind kind)) (two_halves (width_of_kind kind)) (small n kind) in
    record {
      value = number_of_bits n kind;
      given = refl;
      of_kind = in_kind;
      meets = f (number_of_bits n kind) in_kind (pattern-number n kind);
    }

-- and back: what isn't in the range is far from 0, and what is near 0 is in it
pub not_within : (h : ℕ) (v : ℤ) → in_half h v ≡ false → h ≤ unsigned_abs v
not_within zero v e = omega arith
not_within (suc h) (pos n) e = grind (arith, ints)
not_within (suc h) (negsuc n) e = grind (arith, ints)

pub near : (h : ℕ) (v : ℤ) → unsigned_abs v < h → in_half h v ≡ true
near h (pos n) l = is_within_pos h n l
near h (negsuc n) l = is_within_neg h n (omega arith)

pub size_within : (h : ℕ) (v : ℤ) → in_half h v ≡ true → unsigned_abs v ≤ h
size_within h (pos n) e = let l : n < h = within_pos h n e in omega arith
size_within h (negsuc n) e = let l : n < h = within_neg h n e in omega arith
