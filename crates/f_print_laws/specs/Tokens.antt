-- The tokens that a text can have (ISO/IEC 1539-1:2018, 6.2 and 6.3.2), and which rules speak of lengths.
use Rattle.std.specs.Prelude.{◌≡◌, ℕ, ◌≤◌, ◌<◌, List, [], ◌∷◌, length, Option, Some, None, Bool, true, false, ◌==◌, ◌||◌, not}
use Rattle.f_lex.specs.declared.fault.Rule.{Rule}
use Rattle.f_lex.specs.declared.fault.Rule.TheVariants as rule
use Rattle.f_lex.specs.declared.token.Kind.{Kind}
use Rattle.f_lex.specs.declared.token.Kind.TheVariants as kind
use Rattle.f_lex.specs.declared.token.Token.{Token}
use Rattle.f_lex.specs.declared.token.Token.TheVariants as token
use Rattle.f_lex.specs.Characters.{within}
use Rattle.f_lex.specs.Words.{number_of}

-- ---- characters

-- a letter, lowered
abbrev pub is_letter : ℕ → Bool
is_letter c = within 97 122 c

abbrev pub is_digit : ℕ → Bool
is_digit c = within 48 57 c

-- a character of a name: a letter, a digit or `_` (6.1.1)
abbrev pub is_of_name : ℕ → Bool
is_of_name c = is_letter c || is_digit c || (c == 95)

-- a character of a text: any but the line end (7.4.4)
abbrev pub is_of_text : ℕ → Bool
is_of_text c = not (c == 10)

-- each character is so
abbrev pub Each : (ℕ → Bool) → List ℕ → Type 0
Each test [] = Unit {0}
Each test (c ∷ cs) = (test c ≡ true) × Each test cs

-- ---- tokens

-- a letter and then letters, digits and `_`, together at most 63 (6.2.2)
abbrev pub IsName : List ℕ → Type 0
IsName [] = ⊥
IsName (c ∷ cs) = (is_letter c ≡ true) × Each is_of_name cs × (length (c ∷ cs) ≤ 63)

-- one digit or more, which stand for a number below 2 to the power of 63
abbrev pub IsNumber : List ℕ → Type 0
IsNumber [] = ⊥
IsNumber (d ∷ ds) = (is_digit d ≡ true) × Each is_digit ds × (number_of (d ∷ ds) < 9223372036854775808)

-- a kind is digits or a name (7.4.3.1)
abbrev pub IsKind : Option Kind → Type 0
IsKind None = Unit {0}
IsKind (Some (kind.Number digits)) = IsNumber digits
IsKind (Some (kind.Name name)) = IsName name

-- a token as a text can have it, in a statement that has tokens or hasn't: only one that has tokens has an end
abbrev pub IsToken : Bool → Token → Type 0
IsToken begun (token.Name name) = IsName name
IsToken begun (token.Number digits k) = IsNumber digits × IsKind k
IsToken begun (token.Truth value k) = IsKind k
IsToken begun (token.Text bytes k) = Each is_of_text bytes × IsKind k
IsToken begun (token.Mark m) = Unit {0}
IsToken begun token.End = begun ≡ true

-- whether the statement has tokens behind this one
abbrev pub is_begun_by : Token → Bool
is_begun_by token.End = false
is_begun_by _ = true

-- tokens as a text can have them, and each statement has an end
abbrev pub AreTokensFrom : Bool → List Token → Type 0
AreTokensFrom begun [] = begun ≡ false
AreTokensFrom begun (t ∷ ts) = IsToken begun t × AreTokensFrom (is_begun_by t) ts

abbrev pub AreTokens : List Token → Type 0
AreTokens ts = AreTokensFrom false ts

-- whether the statement has tokens behind these
abbrev pub is_begun_behind : Bool → List Token → Bool
is_begun_behind begun [] = begun
is_begun_behind begun (t ∷ ts) = is_begun_behind (is_begun_by t) ts

-- whole statements: the last token, if there is one, is an end
abbrev pub AreStatements : List Token → Type 0
AreStatements ts = is_begun_behind false ts ≡ false

-- ---- rules

-- L01, L07 and L08: lengths of lines, of files and of statements
abbrev pub IsOnLengths : Rule → Type 0
IsOnLengths rule.LongLine = Unit {0}
IsOnLengths rule.TooMany = Unit {0}
IsOnLengths rule.LongStatement = Unit {0}
IsOnLengths _ = ⊥
