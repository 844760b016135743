-- A number on the command line.
use Rattle.std.specs.Prelude.{◌≢◌, ℕ, ◌+◌, ◌-◌, ◌*◌, ◌≤◌, List, length, All, fold, slice_index}

-- a decimal digit
abbrev pub IsDigit : ℕ → Type 0
IsDigit byte = (48 ≤ byte) × (byte ≤ 57)

-- 1 to 19 decimal digits, with no 0 before another digit
pub record IsNumber (word : List ℕ) : Type 0 where
  pub some_digit : 1 ≤ length word
  pub most_digits : length word ≤ 19
  pub digits : All IsDigit word
  pub no_leading_zero : 2 ≤ length word → slice_index word 0 ≢ 48

-- the number that the digits name
abbrev pub value_of : List ℕ → ℕ
value_of word = fold (λ value digit. value * 10 + (digit - 48)) 0 word
