-- The characters of a source text (ISO/IEC 1539-1:2018, 6.1).
use Rattle.std.specs.Prelude.{ℕ, List, [], ◌∷◌, Bool, true, false, ◌==◌, ◌&&◌, ◌||◌, not, nat_le, if◌then◌else◌}
use Rattle.f_lex.specs.declared.class.Run.{Run}
use Rattle.f_lex.specs.declared.class.Run.TheVariants as run
pub use Rattle.f_lex.specs.declared.class.Class.{Class}
pub use Rattle.f_lex.specs.declared.class.Class.TheVariants.{Letter, Digit, Underscore, Blank, LineEnd, Exclamation, Ampersand, Quote, Semicolon, Dot, Mark, Unused, Foreign, Nothing}

abbrev pub line_feed : ℕ
line_feed = 10

abbrev pub carriage_return : ℕ
carriage_return = 13

abbrev pub ampersand : ℕ
ampersand = 38

abbrev pub underscore : ℕ
underscore = 95

abbrev pub within : ℕ → ℕ → ℕ → Bool
within low high c = nat_le low c && nat_le c high

-- space and tab; 10 is the line feed, 33 the exclamation mark, 38 the ampersand, 34 and 39 the quotes, 59 the semicolon, 46 the dot
abbrev pub from_dot : ℕ → Class
from_dot c = if c == 46 then Dot else if (c == 37) || within 40 47 c || (c == 58) || within 60 62 c || (c == 91) || (c == 93) then Mark
    else if within 35 36 c || within 63 64 c || (c == 92) || (c == 94) || (c == 96) || within 123 126 c then Unused else Foreign

abbrev pub from_blank : ℕ → Class
from_blank c = if (c == 32) || (c == 9) then Blank else if c == 10 then LineEnd else if c == 33 then Exclamation else if c == 38 then Ampersand
    else if (c == 34) || (c == 39) then Quote else if c == 59 then Semicolon else from_dot c

-- the sort of a byte: letters, digits and the underscore (6.1.2 to 6.1.4), special characters with and without a use (6.1.5), and other bytes
unfoldable pub class_of : ℕ → Class
class_of c = if within 65 90 c || within 97 122 c then Letter else if within 48 57 c then Digit else if c == 95 then Underscore else from_blank c

-- the byte stands first
unfoldable pub is_next : ℕ → List ℕ → Bool
is_next b [] = false
is_next b (c ∷ cs) = c == b

-- the sort of the character that stands first, where a carriage return before a line feed counts as a blank, since it is part of the line end
unfoldable pub class_at : List ℕ → Class
class_at [] = Nothing
class_at (c ∷ cs) = if (c == carriage_return) && is_next line_feed cs then Blank else class_of c

abbrev pub is_quote : Class → Bool
is_quote Quote = true
is_quote _ = false

-- a quote stands behind the first byte
unfoldable pub quote_is_second : List ℕ → Bool
quote_is_second [] = false
quote_is_second (c ∷ cs) = is_quote (class_at cs)

abbrev pub is_letter : Class → Bool
is_letter Letter = true
is_letter _ = false

abbrev pub is_digit : Class → Bool
is_digit Digit = true
is_digit _ = false

abbrev pub is_blank : Class → Bool
is_blank Blank = true
is_blank _ = false

-- an alphanumeric character (6.1.1)
abbrev pub is_alphanumeric : Class → Bool
is_alphanumeric Letter = true
is_alphanumeric Digit = true
is_alphanumeric Underscore = true
is_alphanumeric _ = false

abbrev pub is_underscore : Class → Bool
is_underscore Underscore = true
is_underscore _ = false

-- the line ends, or the text
abbrev pub ends_line : Class → Bool
ends_line LineEnd = true
ends_line Nothing = true
ends_line _ = false

-- the character that stands first belongs to the run
unfoldable pub goes_on : Run → List ℕ → Bool
goes_on run.Letters cs = is_letter (class_at cs)
goes_on run.Digits cs = is_digit (class_at cs)
goes_on run.Name cs = is_alphanumeric (class_at cs)
goes_on run.Word cs = is_alphanumeric (class_at cs) && not (is_underscore (class_at cs) && quote_is_second cs)
goes_on run.Blanks cs = is_blank (class_at cs)
goes_on run.Comment cs = not (ends_line (class_at cs))
