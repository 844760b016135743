-- What stands behind words, numbers, literals and comments.
use Rattle.std.specs.Prelude.{ℕ, List, [], ◌∷◌, Option, Some, None, Bool, true, false, ◌==◌, ◌&&◌, ◌||◌, not, if◌then◌else◌}
use Rattle.c_text.specs.Classes.{Class, Letter, Digit, Dot, is_digit, is_alphanumeric, class_of}
use Rattle.c_text.specs.Characters.{Character}

abbrev pub choose : {A B : Type 0} → Option A → B → (A → B) → B
choose None none some = none
choose (Some x) none some = some x

abbrev pub seen : {X Y : Type 0} → (X → Y) → Option X → Option Y
seen view None = None
seen view (Some x) = Some (view x)

-- what stands behind the byte, if it stands first
unfoldable pub byte_at : ℕ → List Character → Option (List Character)
byte_at b [] = None
byte_at b (c ∷ cs) = if c.byte == b then Some cs else None

-- a digit stands first
unfoldable pub digit_is_next : List Character → Bool
digit_is_next [] = false
digit_is_next (c ∷ cs) = is_digit (class_of c.byte)

-- what stands behind the letters, digits and underscores at the front (ISO/IEC 9899:2011, 6.4.2.1)
unfoldable pub word_rest : List Character → List Character
word_rest [] = []
word_rest (c ∷ cs) = if is_alphanumeric (class_of c.byte) then word_rest cs else c ∷ cs

-- e E p P
abbrev pub is_exponent : ℕ → Bool
is_exponent c = (c == 101) || (c == 69) || (c == 112) || (c == 80)

abbrev pub is_sign : ℕ → Bool
is_sign c = (c == 43) || (c == 45)

abbrev pub goes_on_number : Bool → ℕ → Class → Bool
goes_on_number behind_exponent c Letter = true
goes_on_number behind_exponent c Digit = true
goes_on_number behind_exponent c Dot = true
goes_on_number behind_exponent c _ = behind_exponent && is_sign c

-- a preprocessing number goes on with a letter, a digit or a dot, and behind an exponent's letter with a sign (6.4.8)
abbrev pub is_in_number : Bool → ℕ → Bool
is_in_number behind_exponent c = goes_on_number behind_exponent c (class_of c)

-- what stands behind a preprocessing number; the test says whether its last character was an exponent's letter
unfoldable pub number_rest : Bool → List Character → List Character
number_rest behind_exponent [] = []
number_rest behind_exponent (c ∷ cs) = if is_in_number behind_exponent c.byte then number_rest (is_exponent c.byte) cs else c ∷ cs

-- the line end behind a comment that begins with // (6.4.9), and what follows
unfoldable pub line_rest : List Character → List Character
line_rest [] = []
line_rest (c ∷ cs) = if c.byte == 10 then c ∷ cs else line_rest cs

-- what stands behind the first */ (6.4.9)
unfoldable pub comment_rest : List Character → Option (List Character)
comment_rest [] = None
comment_rest (c ∷ cs) = if c.byte == 42 then choose (byte_at 47 cs) (comment_rest cs) Some else comment_rest cs

-- whether a literal (6.4.4.4, 6.4.5) has its last quote on its line, and what stands behind; the test says whether a backslash escapes the first character
unfoldable pub literal_rest : Bool → ℕ → List Character → Bool × List Character
literal_rest is_escaped quote [] = (false, [])
literal_rest is_escaped quote (c ∷ cs) = if c.byte == 10 then (false, c ∷ cs) else if not is_escaped && (c.byte == quote) then (true, cs)
    else literal_rest (not is_escaped && (c.byte == 92)) quote cs
