-- Characters and escape sequences between quotes, read from left to right.
use Rattle.std.specs.Prelude.{ℕ, zero, suc, ◌+◌, ◌*◌, List, [], ◌∷◌, ◌++◌, length, Option, Some, None, ◌==◌, ◌||◌, nat_lt, if◌then◌else◌}
use Rattle.c_literal.specs.Digits.{choose, digit_at, digits_at}
use Rattle.c_literal.specs.Literals.{simple_value}

-- a byte and what follows it
abbrev pub Found : Type 0
Found = Option (ℕ × List ℕ)

-- the number, if it is a byte
abbrev pub narrow : ℕ → List ℕ → Found
narrow n rest = if nat_lt n 256 then Some (n, rest) else None

-- the number that a third octal digit makes, if one follows
unfoldable pub third_at : ℕ → List ℕ → ℕ × List ℕ
third_at n text = choose (digit_at 8 text) (n, text) (λ x. (n * 8 + x.0, x.1))

-- the number that a second octal digit makes, and a third
unfoldable pub second_at : ℕ → List ℕ → ℕ × List ℕ
second_at n text = choose (digit_at 8 text) (n, text) (λ x. third_at (n * 8 + x.0) x.1)

-- an octal escape sequence behind its backslash
unfoldable pub octal_at : List ℕ → Found
octal_at text = choose (digit_at 8 text) None (λ x. narrow (second_at x.0 x.1).0 (second_at x.0 x.1).1)

abbrev pub narrowed : Option ℕ → List ℕ → Found
narrowed None rest = None
narrowed (Some n) rest = narrow n rest

abbrev pub hexadecimal_from : List ℕ → Option ℕ × List ℕ → Found
hexadecimal_from text x = if length x.1 == length text then None else narrowed x.0 x.1

-- a hexadecimal escape sequence behind its x
unfoldable pub hexadecimal_at : List ℕ → Found
hexadecimal_at text = hexadecimal_from text (digits_at 16 (Some 0) text)

-- an escape sequence behind its backslash
unfoldable pub escape_at : List ℕ → Found
escape_at [] = None
escape_at (c ∷ cs) = if c == 120 then hexadecimal_at cs else choose (simple_value c) (octal_at (c ∷ cs)) (λ byte. Some (byte, cs))

-- an element between quotes of this kind
unfoldable pub element_at : ℕ → List ℕ → Found
element_at quote [] = None
element_at quote (c ∷ cs) = if c == 92 then escape_at cs else if (c == quote) || (c == 10) then None else Some (c, cs)

-- the bytes of elements behind those that were read; there are no more elements than characters
unfoldable pub bytes_at : ℕ → List ℕ → List ℕ → Option (List ℕ)
bytes_at k bytes [] = Some bytes
bytes_at zero bytes (c ∷ cs) = None
bytes_at (suc k) bytes (c ∷ cs) = choose (element_at 34 (c ∷ cs)) None (λ x. bytes_at k (bytes ++ x.0 ∷ []) x.1)
