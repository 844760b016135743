-- Operations on registers. A register is its 64 bits, a number below 2 ^ 64 (the RISC-V unprivileged specification, 2.4, 5.2 and 7).
use Rattle.std.specs.Prelude.{ℕ, ℤ, pos, ◌+◌, ◌-◌, ◌*◌, ◌/◌, ◌%◌, ◌^◌, ◌*ℤ◌, ◌==◌, ◌&&◌, nat_lt, int_lt, int_div, int_rem, if◌then◌else◌}
use Rattle.std.specs.Int.{Width, w32, w64, w128, cast_signed, cast_unsigned, int_shr}

-- the number that 64 bits are as two's complement
abbrev pub signed : ℕ → ℤ
signed a = cast_signed w64 a

-- the low 32 bits
abbrev pub low_word : ℕ → ℕ
low_word a = a % 2 ^ 32

-- the number that the low 32 bits are as two's complement
abbrev pub signed_word : ℕ → ℤ
signed_word a = cast_signed w32 (low_word a)

-- bits of this width, extended to 64 by copies of the highest
abbrev pub extended : Width → ℕ → ℕ
extended w a = cast_unsigned w64 (cast_signed w a)

-- the low 32 bits, extended to 64 by copies of the highest
abbrev pub extended_word : ℕ → ℕ
extended_word a = extended w32 (low_word a)

-- 2.4.1 and 2.4.2: ADDI, ADD and SUB drop what passes 64 bits
abbrev pub sum_of : ℕ → ℕ → ℕ
sum_of a b = (a + b) % 2 ^ 64

abbrev pub difference_of : ℕ → ℕ → ℕ
difference_of a b = (a + (2 ^ 64 - b)) % 2 ^ 64

-- SLTI, SLT, SLTIU, SLTU: 1 where the first is less, else 0
abbrev pub is_less_signed : ℕ → ℕ → ℕ
is_less_signed a b = if int_lt (signed a) (signed b) then 1 else 0

abbrev pub is_less_unsigned : ℕ → ℕ → ℕ
is_less_unsigned a b = if nat_lt a b then 1 else 0

-- SLLI, SLL, SRLI, SRL, SRAI, SRA: by the low 6 bits of the amount
abbrev pub shifted_left : ℕ → ℕ → ℕ
shifted_left a n = a * 2 ^ (n % 64) % 2 ^ 64

abbrev pub shifted_right : ℕ → ℕ → ℕ
shifted_right a n = a / 2 ^ (n % 64)

abbrev pub shifted_right_signed : ℕ → ℕ → ℕ
shifted_right_signed a n = cast_unsigned w64 (int_shr (signed a) (n % 64))

-- 5.2: ADDIW, ADDW, SUBW and the shifts of words work on the low 32 bits, and extend their result with its sign; shifts are by the low 5 bits of the amount
abbrev pub word_sum : ℕ → ℕ → ℕ
word_sum a b = extended_word (a + b)

abbrev pub word_difference : ℕ → ℕ → ℕ
word_difference a b = extended_word (a + (2 ^ 64 - b))

abbrev pub word_shifted_left : ℕ → ℕ → ℕ
word_shifted_left a n = extended_word (low_word a * 2 ^ (n % 32))

abbrev pub word_shifted_right : ℕ → ℕ → ℕ
word_shifted_right a n = extended_word (low_word a / 2 ^ (n % 32))

abbrev pub word_shifted_right_signed : ℕ → ℕ → ℕ
word_shifted_right_signed a n = cast_unsigned w64 (int_shr (signed_word a) (n % 32))

-- 7.1: MUL and MULW have the low bits of the product, MULH, MULHSU and MULHU the upper 64 of its 128 bits
abbrev pub product_of : ℕ → ℕ → ℕ
product_of a b = a * b % 2 ^ 64

abbrev pub word_product : ℕ → ℕ → ℕ
word_product a b = extended_word (a * b)

abbrev pub upper_half : ℤ → ℕ
upper_half z = cast_unsigned w128 z / 2 ^ 64

abbrev pub high_product_signed : ℕ → ℕ → ℕ
high_product_signed a b = upper_half (signed a *ℤ signed b)

abbrev pub high_product_mixed : ℕ → ℕ → ℕ
high_product_mixed a b = upper_half (signed a *ℤ pos b)

abbrev pub high_product_unsigned : ℕ → ℕ → ℕ
high_product_unsigned a b = upper_half (pos a *ℤ pos b)

-- 7.2: quotients round toward zero, and a remainder has the sign of the dividend.
-- Division by zero gives a quotient of all ones and the dividend as the remainder;
-- the least number divided by -1 gives the dividend and the remainder 0
abbrev pub quotient_unsigned : ℕ → ℕ → ℕ
quotient_unsigned a b = if b == 0 then 2 ^ 64 - 1 else a / b

abbrev pub remainder_unsigned : ℕ → ℕ → ℕ
remainder_unsigned a b = if b == 0 then a else a % b

abbrev pub quotient_signed : ℕ → ℕ → ℕ
quotient_signed a b =
    if b == 0 then 2 ^ 64 - 1
    else if a == 2 ^ 63 && b == 2 ^ 64 - 1 then a
    else cast_unsigned w64 (int_div (signed a) (signed b))

abbrev pub remainder_signed : ℕ → ℕ → ℕ
remainder_signed a b =
    if b == 0 then a
    else if a == 2 ^ 63 && b == 2 ^ 64 - 1 then 0
    else cast_unsigned w64 (int_rem (signed a) (signed b))

-- 7.2: the same of the low 32 bits, the result extended with its sign
abbrev pub word_quotient_unsigned : ℕ → ℕ → ℕ
word_quotient_unsigned a b = if low_word b == 0 then 2 ^ 64 - 1 else extended_word (low_word a / low_word b)

abbrev pub word_remainder_unsigned : ℕ → ℕ → ℕ
word_remainder_unsigned a b =
    if low_word b == 0 then extended_word a else extended_word (low_word a % low_word b)

abbrev pub word_quotient_signed : ℕ → ℕ → ℕ
word_quotient_signed a b =
    if low_word b == 0 then 2 ^ 64 - 1
    else if low_word a == 2 ^ 31 && low_word b == 2 ^ 32 - 1 then extended_word a
    else extended w32 (cast_unsigned w32 (int_div (signed_word a) (signed_word b)))

abbrev pub word_remainder_signed : ℕ → ℕ → ℕ
word_remainder_signed a b =
    if low_word b == 0 then extended_word a
    else if low_word a == 2 ^ 31 && low_word b == 2 ^ 32 - 1 then 0
    else extended w32 (cast_unsigned w32 (int_rem (signed_word a) (signed_word b)))
