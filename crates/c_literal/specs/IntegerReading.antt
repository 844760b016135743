-- Integer constants, read from left to right.
use Rattle.std.specs.Prelude.{ℕ, List, [], ◌∷◌, length, Option, Some, None, Bool, true, false, ◌==◌, ◌||◌, if◌then◌else◌}
use Rattle.c_literal.specs.declared.integer.Radix.{Radix}
use Rattle.c_literal.specs.declared.integer.Radix.TheVariants.{Decimal, Octal, Hexadecimal}
use Rattle.c_literal.specs.declared.integer.LongSuffix.{LongSuffix}
use Rattle.c_literal.specs.declared.integer.LongSuffix.TheVariants.{Absent, Long, LongLong}
use Rattle.c_literal.specs.declared.integer.IntegerConstant.{IntegerConstant}
use Rattle.c_literal.specs.declared.suffix.Suffixes.{Suffixes}
use Rattle.c_literal.specs.Integers.{base_of}
use Rattle.c_literal.specs.Digits.{digits_at}

-- ---- suffixes

-- whether an unsigned suffix stands first, and what follows it
unfoldable pub unsigned_at : List ℕ → Bool × List ℕ
unsigned_at [] = (false, [])
unsigned_at (c ∷ cs) = if (c == 117) || (c == 85) then (true, cs) else (false, c ∷ cs)

abbrev pub second_at : ℕ → List ℕ → LongSuffix × List ℕ
second_at first [] = (Long, [])
second_at first (c ∷ cs) = if c == first then (LongLong, cs) else (Long, c ∷ cs)

-- which long suffix stands first, and what follows it
unfoldable pub long_at : List ℕ → LongSuffix × List ℕ
long_at [] = (Absent, [])
long_at (c ∷ cs) = if (c == 108) || (c == 76) then second_at c cs else (Absent, c ∷ cs)

abbrev pub ended : Bool → LongSuffix → List ℕ → Option Suffixes
ended is_unsigned length_suffix [] = Some (record { is_unsigned = is_unsigned; long = length_suffix })
ended is_unsigned length_suffix (c ∷ cs) = None

abbrev pub turned : LongSuffix → Bool × List ℕ → Option Suffixes
turned length_suffix x = ended x.0 length_suffix x.1

abbrev pub suffix_from : Bool → LongSuffix × List ℕ → Option Suffixes
suffix_from true x = ended true x.0 x.1
suffix_from false x = turned x.0 (unsigned_at x.1)

-- the suffixes that the text consists of
unfoldable pub suffix_at : List ℕ → Option Suffixes
suffix_at text = suffix_from (unsigned_at text).0 (long_at (unsigned_at text).1)

-- ---- constants

abbrev pub behind_zero : List ℕ → List ℕ → Radix × List ℕ
behind_zero text [] = (Octal, text)
behind_zero text (c ∷ cs) = if (c == 120) || (c == 88) then (Hexadecimal, cs) else (Octal, text)

-- how the digits are read, and where they begin
unfoldable pub radix_at : List ℕ → Radix × List ℕ
radix_at [] = (Decimal, [])
radix_at (c ∷ cs) = if c == 48 then behind_zero (c ∷ cs) cs else (Decimal, c ∷ cs)

abbrev pub constant_with : Radix → ℕ → Option Suffixes → Option IntegerConstant
constant_with radix n None = None
constant_with radix n (Some s) = Some (record { value = n; radix = radix; is_unsigned = s.is_unsigned; long = s.long })

-- with digits and their number
abbrev pub valued : Radix → Option ℕ → List ℕ → Option IntegerConstant
valued radix None rest = None
valued radix (Some n) rest = constant_with radix n (suffix_at rest)

abbrev pub constant_from : Radix → List ℕ → Option ℕ × List ℕ → Option IntegerConstant
constant_from radix text x = if length x.1 == length text then None else valued radix x.0 x.1

-- the constant that a spelling is
unfoldable pub constant_at : List ℕ → Option IntegerConstant
constant_at text = constant_from (radix_at text).0 (radix_at text).1 (digits_at (base_of (radix_at text).0) (Some 0) (radix_at text).1)
