-- The token that a preprocessing token is converted to (ISO/IEC 9899:2011, 5.1.1.2p1 and 6.4), and how tokens are spelled.
use Rattle.std.specs.Prelude.{ℕ, List, [], ◌∷◌, ◌++◌, length, Option, Some, None, is_some, Bool, true, false, ◌==◌, if◌then◌else◌}
use Rattle.c_text.specs.declared.kind.Kind.{Kind}
use Rattle.c_text.specs.declared.kind.Kind.TheVariants as kind
use Rattle.c_token.specs.declared.mark.Mark.{Mark}
use Rattle.c_token.specs.declared.token.CToken.{CToken}
use Rattle.c_token.specs.declared.token.CToken.TheVariants as token
use Rattle.c_literal.specs.Digits.{seen}
use Rattle.c_literal.specs.IntegerReading.{constant_at}
use Rattle.c_literal.specs.LiteralReading.{Found, element_at, bytes_at}
use Rattle.c_form.specs.Marks.{spelling_of, mark_of}

-- an integer constant in unsigned long (6.4.4.1)
unfoldable pub is_number : List ℕ → Bool
is_number s = is_some (constant_at s)

-- one character or escape sequence, which stands for a byte (6.4.4.4)
abbrev pub is_whole : Found → Bool
is_whole None = false
is_whole (Some x) = length x.1 == 0

unfoldable pub is_character : List ℕ → Bool
is_character content = is_whole (element_at 39 content)

-- characters and escape sequences that stand for bytes (6.4.5)
unfoldable pub is_string : List ℕ → Bool
is_string content = is_some (bytes_at (length content) [] content)

-- what stands before the quote, where that stands last; quotes inside stand behind backslashes
abbrev pub before_last : ℕ → List ℕ → Option (List ℕ)
before_last quote [] = None
before_last quote (c ∷ []) = if c == quote then Some [] else None
before_last quote (c ∷ d ∷ ds) = seen (λ content. c ∷ content) (before_last quote (d ∷ ds))

-- what stands between two quotes; nothing stands before the first, so that a literal with a prefix has none
unfoldable pub between : ℕ → List ℕ → Option (List ℕ)
between quote [] = None
between quote (c ∷ cs) = if c == quote then before_last quote cs else None

abbrev pub text_with : Option (List ℕ) → Option CToken
text_with None = None
text_with (Some content) = if is_string content then Some (token.Text content) else None

abbrev pub byte_with : Option (List ℕ) → Option CToken
byte_with None = None
byte_with (Some content) = if is_character content then Some (token.Byte content) else None

abbrev pub mark_with : Option Mark → Option CToken
mark_with None = None
mark_with (Some m) = Some (token.Mark m)

-- the token that a preprocessing token is converted to, if it has one of the forms of the grammar
unfoldable pub token_of : Kind → List ℕ → Option CToken
token_of kind.Name s = Some (token.Id s)
token_of kind.Number s = if is_number s then Some (token.Number s) else None
token_of kind.Character s = byte_with (between 39 s)
token_of kind.Text s = text_with (between 34 s)
token_of kind.Mark s = mark_with (mark_of s)
token_of _ s = None

-- how a token is spelled
unfoldable pub spelled_token : CToken → List ℕ
spelled_token (token.Id s) = s
spelled_token (token.Number s) = s
spelled_token (token.Text content) = 34 ∷ (content ++ 34 ∷ [])
spelled_token (token.Byte content) = 39 ∷ (content ++ 39 ∷ [])
spelled_token (token.Mark m) = spelling_of m
