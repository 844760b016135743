-- An INTEGER value as bits (16.3.1), a negative one by two's complement.
use Rattle.std.specs.Prelude.{ℕ, suc, ℤ, pos, negsuc, ◌-◌, ◌*◌, ◌/◌, ◌%◌, ◌^◌, Bool, nat_eq}
use Rattle.jf_base.specs.Numbers.{size_of_width}
use Rattle.f_value.specs.Values.{width_of_kind}

-- the number of bits of a kind (BIT_SIZE, 16.9.39)
abbrev pub bit_size : ℕ → ℕ
bit_size kind = 8 * size_of_width (width_of_kind kind)

-- the number without sign that has the same bits: a negative number and 2 to the number of bits
abbrev pub pattern : ℤ → ℕ → ℕ
pattern (pos n) bits = n
pattern (negsuc n) bits = 2 ^ bits - suc n

-- whether bit k of a number is 1, where bit 0 is the lowest
abbrev pub has_bit : ℤ → ℕ → ℕ → Bool
has_bit v bits k = nat_eq (pattern v bits / 2 ^ k % 2) 1
