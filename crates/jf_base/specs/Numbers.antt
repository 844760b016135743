-- Numbers of a width as two's complement.
use Rattle.std.specs.Prelude.{◌^◌, ◌*◌, ◌+◌, ◌+ℤ◌, ◌-ℤ◌, ◌≤ℤ◌, ◌<ℤ◌, ℕ, ℤ, pos, Bool, true, false, List, unsigned_abs, zero, suc, slice_index, if◌then◌else◌, nat_le}
use Rattle.std.specs.Int.{int_rem_euclid, bytes_low_first}
use Rattle.jf_base.specs.declared.numbers.Width.{Width}
use Rattle.jf_base.specs.declared.numbers.Width.TheVariants.{W1, W2, W4, W8}

-- the bytes of a width
abbrev pub size_of_width : Width → ℕ
size_of_width W1 = 1
size_of_width W2 = 2
size_of_width W4 = 4
size_of_width W8 = 8

-- how many numbers a width has
abbrev pub modulus_of : Width → ℕ
modulus_of W1 = 2 ^ 8
modulus_of W2 = 2 ^ 16
modulus_of W4 = 2 ^ 32
modulus_of W8 = 2 ^ 64

abbrev pub half_of : Width → ℕ
half_of W1 = 2 ^ 7
half_of W2 = 2 ^ 15
half_of W4 = 2 ^ 31
half_of W8 = 2 ^ 63

-- v lies in the range of the width
abbrev pub Fits : ℤ → Width → Bool → Type 0
Fits v w false = (pos 0 ≤ℤ v) × (v <ℤ pos (modulus_of w))
Fits v w true = (pos 0 ≤ℤ (v +ℤ pos (half_of w))) × (v <ℤ pos (half_of w))

-- v without sign, below the modulus
abbrev pub residue : ℤ → Width → ℕ
residue v w = unsigned_abs (int_rem_euclid v (pos (modulus_of w)))

-- the number of that residue
abbrev pub as_signed : ℕ → Width → Bool → ℤ
as_signed n w false = pos n
as_signed n w true = if nat_le (half_of w) n then pos n -ℤ pos (modulus_of w) else pos n

abbrev pub wrapped : ℤ → Width → Bool → ℤ
wrapped v w signed = as_signed (residue v w) w signed

abbrev pub bytes_low_first_of : ℤ → Width → List ℕ
bytes_low_first_of v w = bytes_low_first 0 8 (residue v w)

-- the number of the n bytes from place i, the lowest first
abbrev pub number_low_first : ℕ → ℕ → List ℕ → ℕ
number_low_first i zero bs = 0
number_low_first i (suc n) bs = slice_index bs i + 256 * number_low_first (suc i) n bs

abbrev pub number_at : List ℕ → Width → Bool → ℤ
number_at bs w signed = as_signed (number_low_first 0 (size_of_width w) bs) w signed
