-- Character constants and string literals (ISO/IEC 9899:2011, 6.4.4.4 and 6.4.5), by what stands between their quotes.
use Rattle.std.specs.Prelude.{◌≡◌, ◌≢◌, ℕ, ◌<◌, ◌≤◌, ◌++◌, List, [], ◌∷◌, length, Option, Some, None, ◌==◌, if◌then◌else◌, ◌⊎◌}
use Rattle.std.specs.Char.{digit_value}
use Rattle.std.specs.Str.Parse.{IsNumeral, digits_value}

-- ---- elements: a character that stands for itself, or an escape sequence

pub data Element : Type 0 where
  -- a byte that stands for itself
  Plain : (c : ℕ) → Element
  -- a backslash and a letter or mark
  Simple : (c : ℕ) → Element
  -- a backslash and octal digits
  Octal : (ds : List ℕ) → Element
  -- a backslash, an x and hexadecimal digits
  Hexadecimal : (ds : List ℕ) → Element

-- the characters of an element, and then the rest
abbrev pub spell : Element → List ℕ → List ℕ
spell (Plain c) rest = c ∷ rest
spell (Simple c) rest = 92 ∷ c ∷ rest
spell (Octal ds) rest = 92 ∷ (ds ++ rest)
spell (Hexadecimal ds) rest = 92 ∷ 120 ∷ (ds ++ rest)

-- what the simple escape sequences stand for (6.4.4.4p4, 5.2.2): \' \" \? \\ \a \b \f \n \r \t \v
abbrev pub simple_value : ℕ → Option ℕ
simple_value c = if c == 39 then Some 39 else if c == 34 then Some 34 else if c == 63 then Some 63 else if c == 92 then Some 92
    else if c == 97 then Some 7 else if c == 98 then Some 8 else if c == 102 then Some 12 else if c == 110 then Some 10
    else if c == 114 then Some 13 else if c == 116 then Some 9 else if c == 118 then Some 11 else None

-- the element stands for this byte: an escape sequence above 255 is out of range (6.4.4.4p9)
abbrev pub StandsFor : Element → ℕ → Type 0
StandsFor (Plain c) n = n ≡ c
StandsFor (Simple c) n = simple_value c ≡ Some n
StandsFor (Octal ds) n = (n ≡ digits_value 8 ds) × (n < 256)
StandsFor (Hexadecimal ds) n = (n ≡ digits_value 16 ds) × (n < 256)

-- no digit of the radix stands first
abbrev pub NoDigit : ℕ → List ℕ → Type 0
NoDigit radix [] = Unit {0}
NoDigit radix (c ∷ cs) = radix ≤ digit_value c

-- The element may stand before the rest between quotes of this kind: what stands for itself is no quote, no backslash and no line end, an octal escape
-- sequence has one to three digits, and an octal or hexadecimal one is as long as it can be (6.4.4.4p7).
abbrev pub Fits : ℕ → Element → List ℕ → Type 0
Fits quote (Plain c) rest = (c ≢ quote) × (c ≢ 92) × (c ≢ 10)
Fits quote (Simple c) rest = Unit {0}
Fits quote (Octal ds) rest = IsNumeral 8 ds × (length ds ≤ 3) × ((length ds ≡ 3) ⊎ NoDigit 8 rest)
Fits quote (Hexadecimal ds) rest = IsNumeral 16 ds × NoDigit 16 rest

-- the element fits before the rest, and stands for this byte
pub record Gives (quote : ℕ) (e : Element) (rest : List ℕ) (byte : ℕ) : Type 0 where
  pub fits : Fits quote e rest
  pub stands_for : StandsFor e byte

-- ---- character constants

-- one element stands between apostrophes, and stands for this byte
pub record IsCharacter (content : List ℕ) (byte : ℕ) : Type 0 where
  pub element : Element
  pub spelled : content ≡ spell element []
  pub gives : Gives 39 element [] byte

abbrev pub IsNoCharacter : List ℕ → Type 0
IsNoCharacter content = (byte : ℕ) → IsCharacter content byte → ⊥

-- ---- string literals

abbrev pub spell_all : List Element → List ℕ
spell_all [] = []
spell_all (e ∷ es) = spell e (spell_all es)

-- each element stands for its byte
abbrev pub GiveAll : List Element → List ℕ → Type 0
GiveAll [] [] = Unit {0}
GiveAll [] (b ∷ bs) = ⊥
GiveAll (e ∷ es) [] = ⊥
GiveAll (e ∷ es) (b ∷ bs) = Gives 34 e (spell_all es) b × GiveAll es bs

-- elements stand between quotation marks, and stand for these bytes; the zero that ends the array (6.4.5p6) is none of them
pub record IsString (content : List ℕ) (bytes : List ℕ) : Type 0 where
  pub elements : List Element
  pub spelled : content ≡ spell_all elements
  pub give : GiveAll elements bytes

abbrev pub IsNoString : List ℕ → Type 0
IsNoString content = (bytes : List ℕ) → IsString content bytes → ⊥

-- ---- quotes

-- the content stands between two quotes, and no prefix before them
abbrev pub IsBetween : ℕ → List ℕ → List ℕ → Type 0
IsBetween quote spelling content = spelling ≡ quote ∷ (content ++ quote ∷ [])

abbrev pub IsUnquoted : ℕ → List ℕ → Type 0
IsUnquoted quote spelling = (content : List ℕ) → IsBetween quote spelling content → ⊥
