-- Runs of digits, read from left to right.
use Rattle.std.specs.Prelude.{ℕ, ◌+◌, ◌*◌, ◌^◌, List, [], ◌∷◌, Option, Some, None, nat_lt, if◌then◌else◌}
use Rattle.std.specs.Char.{digit_value}

-- what a function found, seen by view
abbrev pub seen : {X Y : Type 0} → (X → Y) → Option X → Option Y
seen view None = None
seen view (Some x) = Some (view x)

-- where there is something, and where there is not
abbrev pub choose : {A B : Type 0} → Option A → B → (A → B) → B
choose None none some = none
choose (Some x) none some = some x

-- the digit of the radix that stands first, and what follows it
unfoldable pub digit_at : ℕ → List ℕ → Option (ℕ × List ℕ)
digit_at radix [] = None
digit_at radix (c ∷ cs) = if nat_lt (digit_value c) radix then Some (digit_value c, cs) else None

-- the number, if it has 64 bits
abbrev pub in_range : ℕ → Option ℕ
in_range n = if nat_lt n (2 ^ 64) then Some n else None

-- the number that a digit more makes
abbrev pub counted : ℕ → Option ℕ → ℕ → Option ℕ
counted radix None digit = None
counted radix (Some n) digit = in_range (n * radix + digit)

-- the number that the digits at the front make behind those of a number, and what follows them
unfoldable pub digits_at : ℕ → Option ℕ → List ℕ → Option ℕ × List ℕ
digits_at radix value [] = (value, [])
digits_at radix value (c ∷ cs) = if nat_lt (digit_value c) radix then digits_at radix (counted radix value (digit_value c)) cs else (value, c ∷ cs)
