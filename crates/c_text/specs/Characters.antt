-- The first two phases of translation (ISO/IEC 9899:2011, 5.1.1.2).
use Rattle.std.specs.Prelude.{ℕ, zero, suc, ◌+◌, List, [], ◌∷◌, Option, Some, None, Bool, true, false, ◌==◌, ◌&&◌, if◌then◌else◌}
pub use Rattle.c_text.specs.declared.character.Point.{Point}
pub use Rattle.c_text.specs.declared.character.Character.{Character}

-- the byte stands first
unfoldable pub is_next : ℕ → List ℕ → Bool
is_next b [] = false
is_next b (c ∷ cs) = c == b

-- the character that a trigraph with this third byte stands for (5.2.1.1): ??= # ??( [ ??/ \ ??) ] ??' ^ ??< { ??! | ??> } ??- ~
unfoldable pub third_of : ℕ → Option ℕ
third_of c = if c == 61 then Some 35 else if c == 40 then Some 91 else if c == 47 then Some 92 else if c == 41 then Some 93 else if c == 39 then Some 94
    else if c == 60 then Some 123 else if c == 33 then Some 124 else if c == 62 then Some 125 else if c == 45 then Some 126 else None

-- the character that a trigraph stands for, if one stands first
unfoldable pub trigraph_at : List ℕ → Option ℕ
trigraph_at [] = None
trigraph_at (a ∷ []) = None
trigraph_at (a ∷ b ∷ []) = None
trigraph_at (a ∷ b ∷ c ∷ cs) = if (a == 63) && (b == 63) then third_of c else None

abbrev pub character : ℕ → ℕ → ℕ → Character
character byte line column = record { byte = byte; point = record { line = line; column = column } }

abbrev pub written : ℕ → Option ℕ → ℕ × ℕ
written b None = (b, 0)
written b (Some c) = (c, 2)

-- the character that the first byte of a text begins, and how many of the bytes behind it belong to it
unfoldable pub written_at : ℕ → List ℕ → ℕ × ℕ
written_at b bs = written b (trigraph_at bs)

-- a carriage return before a line feed
abbrev pub is_dropped : ℕ → List ℕ → Bool
is_dropped b bs = (b == 13) && is_next 10 bs

-- first phase: the characters from this place on, where so many bytes still belong to a trigraph; a carriage return before a line feed is dropped
unfoldable pub characters : ℕ → ℕ → ℕ → List ℕ → List Character
characters skipped line column [] = []
characters (suc n) line column (b ∷ bs) = characters n line (column + 1) bs
characters zero line column (b ∷ bs) = if is_dropped b bs then characters 0 line (column + 1) bs
    else if b == 10 then character 10 line column ∷ characters 0 (line + 1) 1 bs
    else character (written_at b (b ∷ bs)).0 line column ∷ characters (written_at b (b ∷ bs)).1 line (column + 1) bs

-- a backslash before a line end
abbrev pub is_splice : Character → List Character → Bool
is_splice c [] = false
is_splice c (d ∷ ds) = (c.byte == 92) && (d.byte == 10)

-- second phase: a backslash and the line end behind it are dropped; first the line end, if the test says so
unfoldable pub joined : Bool → List Character → List Character
joined in_splice [] = []
joined true (c ∷ cs) = joined false cs
joined false (c ∷ cs) = if is_splice c cs then joined true cs else c ∷ joined false cs
