-- The word that a token is converted to in translation phase 7 (ISO/IEC 9899:2011, 5.1.1.2p1, 6.4): a keyword, a name, a constant or a punctuator.
use Rattle.std.specs.Prelude.{◌≡◌, ℕ, zero, suc, List, [], ◌∷◌, ◌++◌, length, codes, Option, Some, None, Bool, true, false, ◌==◌, if◌then◌else◌}
use Rattle.std.specs.Str.{bytes_eq}
use Rattle.cfi_header.specs.declared.text.TheConstants.{DESCRIPTOR_WORD}
use Rattle.c_token.specs.declared.mark.Mark.{Mark}
use Rattle.c_token.specs.declared.mark.Mark.TheVariants as mark
use Rattle.c_token.specs.declared.token.CToken.{CToken}
use Rattle.c_token.specs.declared.token.CToken.TheVariants as token
use Rattle.c_token.specs.declared.token.CSpanned.{CSpanned}
use Rattle.c_tree.specs.declared.operator.SpecifierWord.TheVariants as specifier
use Rattle.c_literal.specs.declared.integer.IntegerConstant.{IntegerConstant}
use Rattle.c_literal.specs.Integers.{type_of}
use Rattle.c_literal.specs.IntegerReading.{constant_at}
use Rattle.c_literal.specs.Literals.{IsString}
use Rattle.c_literal.specs.LiteralReading.{Found, element_at, bytes_at}
use Rattle.c_grammar.specs.declared.token.Token.{Token}
use Rattle.c_grammar.specs.declared.token.Token.TheVariants as word

-- ---- keywords (6.4.1)

-- specifiers of one word (6.7.1 to 6.7.3), and the word that names the type of descriptors in the text of ISO_Fortran_binding.h
unfoldable pub specifier_of : List ℕ → Option Token
specifier_of s = if bytes_eq s (codes "int") then Some (word.Word specifier.Int) else
    if bytes_eq s (codes "char") then Some (word.Word specifier.Char) else
    if bytes_eq s (codes "void") then Some (word.Word specifier.Void) else
    if bytes_eq s (codes "const") then Some (word.Word specifier.Const) else
    if bytes_eq s (codes "static") then Some (word.Word specifier.Static) else
    if bytes_eq s (codes "long") then Some (word.Word specifier.Long) else
    if bytes_eq s (codes "unsigned") then Some (word.Word specifier.Unsigned) else
    if bytes_eq s (codes "short") then Some (word.Word specifier.Short) else
    if bytes_eq s (codes "signed") then Some (word.Word specifier.Signed) else
    if bytes_eq s (codes "extern") then Some (word.Word specifier.Extern) else
    if bytes_eq s (codes "typedef") then Some (word.Word specifier.Typedef) else
    if bytes_eq s (codes "_Bool") then Some (word.Word specifier.Bool) else
    if bytes_eq s DESCRIPTOR_WORD.now then Some (word.Word specifier.Descriptor) else None

-- words of statements (6.8)
unfoldable pub statement_of : List ℕ → Option Token
statement_of s = if bytes_eq s (codes "if") then Some word.If else
    if bytes_eq s (codes "else") then Some word.Else else
    if bytes_eq s (codes "return") then Some word.Return else
    if bytes_eq s (codes "for") then Some word.For else
    if bytes_eq s (codes "while") then Some word.While else
    if bytes_eq s (codes "do") then Some word.Do else
    if bytes_eq s (codes "break") then Some word.Break else
    if bytes_eq s (codes "continue") then Some word.Continue else
    if bytes_eq s (codes "switch") then Some word.Switch else
    if bytes_eq s (codes "case") then Some word.Case else
    if bytes_eq s (codes "default") then Some word.Default else None

-- words of types, declarators and expressions (6.7.2.1, 6.7.2.2, 6.7.3, 6.5.3.4); CFI_CDESC_T is one in each file
unfoldable pub other_of : List ℕ → Option Token
other_of s = if bytes_eq s (codes "struct") then Some word.Struct else
    if bytes_eq s (codes "enum") then Some word.Enum else
    if bytes_eq s (codes "sizeof") then Some word.Sizeof else
    if bytes_eq s (codes "restrict") then Some word.Restrict else
    if bytes_eq s (codes "CFI_CDESC_T") then Some word.DescriptorOfRank else None

-- the keywords that the profile has no use for
unfoldable pub unused_small : List ℕ → Option Token
unused_small s = if bytes_eq s (codes "auto") then Some word.Unused else
    if bytes_eq s (codes "double") then Some word.Unused else
    if bytes_eq s (codes "float") then Some word.Unused else
    if bytes_eq s (codes "goto") then Some word.Unused else
    if bytes_eq s (codes "inline") then Some word.Unused else
    if bytes_eq s (codes "register") then Some word.Unused else
    if bytes_eq s (codes "union") then Some word.Unused else
    if bytes_eq s (codes "volatile") then Some word.Unused else None

unfoldable pub unused_capital : List ℕ → Option Token
unused_capital s = if bytes_eq s (codes "_Alignas") then Some word.Unused else
    if bytes_eq s (codes "_Alignof") then Some word.Unused else
    if bytes_eq s (codes "_Atomic") then Some word.Unused else
    if bytes_eq s (codes "_Complex") then Some word.Unused else
    if bytes_eq s (codes "_Generic") then Some word.Unused else
    if bytes_eq s (codes "_Imaginary") then Some word.Unused else
    if bytes_eq s (codes "_Noreturn") then Some word.Unused else
    if bytes_eq s (codes "_Static_assert") then Some word.Unused else
    if bytes_eq s (codes "_Thread_local") then Some word.Unused else None

abbrev pub or_else : Option Token → Option Token → Option Token
or_else None other = other
or_else (Some w) other = Some w

-- the keyword with this spelling
unfoldable pub keyword_of : List ℕ → Option Token
keyword_of s = or_else (specifier_of s) (or_else (statement_of s) (or_else (other_of s) (or_else (unused_small s) (unused_capital s))))

-- ---- names (6.4.2)

-- the index of a name, and the length where it isn't there
abbrev pub index_of : List (List ℕ) → List ℕ → ℕ
index_of [] s = 0
index_of (k ∷ ks) s = if bytes_eq s k then 0 else suc (index_of ks s)

abbrev pub keyword_or_name : List (List ℕ) → List ℕ → Option Token → Token
keyword_or_name names s (Some w) = w
keyword_or_name names s None = word.Name (index_of names s)

-- ---- constants (6.4.4): what is none of the profile is a word that stands in no production

abbrev pub number_word : Option IntegerConstant → Token
number_word None = word.Unused
number_word (Some c) = word.Number c.value (type_of c)

abbrev pub byte_word : Found → Token
byte_word None = word.Unused
byte_word (Some x) = if length x.1 == 0 then word.Byte x.0 else word.Unused

-- ---- string literals (6.4.5)

-- the bytes of one literal
abbrev pub string_at : List ℕ → Option (List ℕ)
string_at content = bytes_at (length content) [] content

abbrev pub joined : Option (List ℕ) → Option (List ℕ) → Option (List ℕ)
joined (Some bytes) (Some more) = Some (bytes ++ more)
joined _ _ = None

-- the bytes of literals that stand side by side, if each has a form
abbrev pub strings_at : List (List ℕ) → Option (List ℕ)
strings_at [] = Some []
strings_at (content ∷ contents) = joined (string_at content) (strings_at contents)

-- the bytes that literals stand for, one behind the other
abbrev pub AreStrings : List (List ℕ) → List ℕ → Type 0
AreStrings [] bytes = bytes ≡ []
AreStrings (content ∷ contents) bytes = (first : List ℕ) × (more : List ℕ) × IsString content first × AreStrings contents more × (bytes ≡ first ++ more)

abbrev pub AreNoStrings : List (List ℕ) → Type 0
AreNoStrings contents = (bytes : List ℕ) → AreStrings contents bytes → ⊥

abbrev pub string_word : ℕ → Option (List ℕ) → Token
string_word k None = word.Unused
string_word k (Some bytes) = word.Text k

-- ---- punctuators (6.4.6)

unfoldable pub sign_of : Mark → Token
sign_of mark.OpenBracket = word.SquareOpen
sign_of mark.CloseBracket = word.SquareClose
sign_of mark.Open = word.Open
sign_of mark.Close = word.Close
sign_of mark.OpenBrace = word.BraceOpen
sign_of mark.CloseBrace = word.BraceClose
sign_of mark.Dot = word.Dot
sign_of mark.Arrow = word.Arrow
sign_of mark.Increment = word.Increment
sign_of mark.Decrement = word.Decrement
sign_of mark.Ampersand = word.Ampersand
sign_of mark.Star = word.Star
sign_of mark.Plus = word.Plus
sign_of mark.Minus = word.Minus
sign_of mark.Tilde = word.Tilde
sign_of mark.Exclamation = word.Exclamation
sign_of mark.Slash = word.Slash
sign_of mark.Percent = word.Percent
sign_of mark.ShiftLeft = word.ShiftLeft
sign_of mark.ShiftRight = word.ShiftRight
sign_of mark.Less = word.Less
sign_of mark.Greater = word.Greater
sign_of mark.LessEqual = word.LessEqual
sign_of mark.GreaterEqual = word.GreaterEqual
sign_of mark.Equal = word.Equal
sign_of mark.NotEqual = word.NotEqual
sign_of mark.Caret = word.Caret
sign_of mark.Bar = word.Bar
sign_of mark.AndAnd = word.AndAnd
sign_of mark.OrOr = word.OrOr
sign_of mark.Question = word.Question
sign_of mark.Colon = word.Colon
sign_of mark.Semicolon = word.Semi
sign_of mark.Assign = word.Equals
sign_of mark.StarAssign = word.StarEquals
sign_of mark.SlashAssign = word.SlashEquals
sign_of mark.PercentAssign = word.PercentEquals
sign_of mark.PlusAssign = word.PlusEquals
sign_of mark.MinusAssign = word.MinusEquals
sign_of mark.ShiftLeftAssign = word.ShiftLeftEquals
sign_of mark.ShiftRightAssign = word.ShiftRightEquals
sign_of mark.AmpersandAssign = word.AmpersandEquals
sign_of mark.CaretAssign = word.CaretEquals
sign_of mark.BarAssign = word.BarEquals
sign_of mark.Comma = word.Comma
-- digraphs mean what they stand for (6.4.6p3)
sign_of mark.OpenBracketDigraph = word.SquareOpen
sign_of mark.CloseBracketDigraph = word.SquareClose
sign_of mark.OpenBraceDigraph = word.BraceOpen
sign_of mark.CloseBraceDigraph = word.BraceClose
