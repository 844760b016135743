-- The characters of a C text (ISO/IEC 9899:2011, 5.2.1).
use Rattle.std.specs.Prelude.{ℕ, Bool, true, false, ◌==◌, ◌&&◌, ◌||◌, nat_le, if◌then◌else◌}
pub use Rattle.c_text.specs.declared.class.Class.{Class}
pub use Rattle.c_text.specs.declared.class.Class.TheVariants.{Letter, Digit, Blank, LineEnd, Quote, Slash, Dot, Mark, Backslash, Foreign}

abbrev pub within : ℕ → ℕ → ℕ → Bool
within low high c = nat_le low c && nat_le c high

-- ! # % & ( ) * + , - : ; < = > ? [ ] ^ { | } ~
abbrev pub is_mark : ℕ → Bool
is_mark c = (c == 33) || (c == 35) || within 37 38 c || within 40 45 c || within 58 63 c || (c == 91) || within 93 94 c || within 123 126 c

abbrev pub from_quote : ℕ → Class
from_quote c = if (c == 34) || (c == 39) then Quote else if c == 47 then Slash else if c == 46 then Dot else if is_mark c then Mark
    else if c == 92 then Backslash else Foreign

-- the sort of a byte: letters with the underscore, digits, white space but line ends (space, the tabs and form feed), line ends, graphic characters, and bytes outside the basic source character set
unfoldable pub class_of : ℕ → Class
class_of c = if within 65 90 c || within 97 122 c || (c == 95) then Letter else if within 48 57 c then Digit
    else if (c == 32) || (c == 9) || within 11 12 c then Blank else if c == 10 then LineEnd else from_quote c

abbrev pub is_letter : Class → Bool
is_letter Letter = true
is_letter _ = false

abbrev pub is_digit : Class → Bool
is_digit Digit = true
is_digit _ = false

-- a character of an identifier behind its first (6.4.2.1)
abbrev pub is_alphanumeric : Class → Bool
is_alphanumeric Letter = true
is_alphanumeric Digit = true
is_alphanumeric _ = false

abbrev pub is_line_end : Class → Bool
is_line_end LineEnd = true
is_line_end _ = false
