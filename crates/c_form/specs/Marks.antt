-- The spellings of punctuators (ISO/IEC 9899:2011, 6.4.6).
use Rattle.std.specs.Prelude.{ℕ, List, codes, Option, Some, None, if◌then◌else◌}
use Rattle.std.specs.Str.{bytes_eq}
use Rattle.c_token.specs.declared.mark.Mark.{Mark}
use Rattle.c_token.specs.declared.mark.Mark.TheVariants as mark

-- how a punctuator is spelled
unfoldable pub spelling_of : Mark → List ℕ
spelling_of mark.OpenBracket = codes "["
spelling_of mark.CloseBracket = codes "]"
spelling_of mark.Open = codes "("
spelling_of mark.Close = codes ")"
spelling_of mark.OpenBrace = codes "{"
spelling_of mark.CloseBrace = codes "}"
spelling_of mark.Dot = codes "."
spelling_of mark.Arrow = codes "->"
spelling_of mark.Increment = codes "++"
spelling_of mark.Decrement = codes "--"
spelling_of mark.Ampersand = codes "&"
spelling_of mark.Star = codes "*"
spelling_of mark.Plus = codes "+"
spelling_of mark.Minus = codes "-"
spelling_of mark.Tilde = codes "~"
spelling_of mark.Exclamation = codes "!"
spelling_of mark.Slash = codes "/"
spelling_of mark.Percent = codes "%"
spelling_of mark.ShiftLeft = codes "<<"
spelling_of mark.ShiftRight = codes ">>"
spelling_of mark.Less = codes "<"
spelling_of mark.Greater = codes ">"
spelling_of mark.LessEqual = codes "<="
spelling_of mark.GreaterEqual = codes ">="
spelling_of mark.Equal = codes "=="
spelling_of mark.NotEqual = codes "!="
spelling_of mark.Caret = codes "^"
spelling_of mark.Bar = codes "|"
spelling_of mark.AndAnd = codes "&&"
spelling_of mark.OrOr = codes "||"
spelling_of mark.Question = codes "?"
spelling_of mark.Colon = codes ":"
spelling_of mark.Semicolon = codes ";"
spelling_of mark.Assign = codes "="
spelling_of mark.StarAssign = codes "*="
spelling_of mark.SlashAssign = codes "/="
spelling_of mark.PercentAssign = codes "%="
spelling_of mark.PlusAssign = codes "+="
spelling_of mark.MinusAssign = codes "-="
spelling_of mark.ShiftLeftAssign = codes "<<="
spelling_of mark.ShiftRightAssign = codes ">>="
spelling_of mark.AmpersandAssign = codes "&="
spelling_of mark.CaretAssign = codes "^="
spelling_of mark.BarAssign = codes "|="
spelling_of mark.Comma = codes ","
spelling_of mark.OpenBracketDigraph = codes "<:"
spelling_of mark.CloseBracketDigraph = codes ":>"
spelling_of mark.OpenBraceDigraph = codes "<%"
spelling_of mark.CloseBraceDigraph = codes "%>"

-- brackets, their digraphs and separators
unfoldable pub bracket_of : List ℕ → Option Mark
bracket_of s = if bytes_eq s (codes "[") then Some mark.OpenBracket else
    if bytes_eq s (codes "]") then Some mark.CloseBracket else
    if bytes_eq s (codes "(") then Some mark.Open else
    if bytes_eq s (codes ")") then Some mark.Close else
    if bytes_eq s (codes "{") then Some mark.OpenBrace else
    if bytes_eq s (codes "}") then Some mark.CloseBrace else
    if bytes_eq s (codes ",") then Some mark.Comma else
    if bytes_eq s (codes ";") then Some mark.Semicolon else
    if bytes_eq s (codes ":") then Some mark.Colon else
    if bytes_eq s (codes "?") then Some mark.Question else None

-- digraphs and access to members
unfoldable pub digraph_of : List ℕ → Option Mark
digraph_of s = if bytes_eq s (codes "<:") then Some mark.OpenBracketDigraph else
    if bytes_eq s (codes ":>") then Some mark.CloseBracketDigraph else
    if bytes_eq s (codes "<%") then Some mark.OpenBraceDigraph else
    if bytes_eq s (codes "%>") then Some mark.CloseBraceDigraph else
    if bytes_eq s (codes ".") then Some mark.Dot else
    if bytes_eq s (codes "->") then Some mark.Arrow else None

-- operators of arithmetic and on bits
unfoldable pub arithmetic_of : List ℕ → Option Mark
arithmetic_of s = if bytes_eq s (codes "++") then Some mark.Increment else
    if bytes_eq s (codes "--") then Some mark.Decrement else
    if bytes_eq s (codes "*") then Some mark.Star else
    if bytes_eq s (codes "+") then Some mark.Plus else
    if bytes_eq s (codes "-") then Some mark.Minus else
    if bytes_eq s (codes "/") then Some mark.Slash else
    if bytes_eq s (codes "%") then Some mark.Percent else
    if bytes_eq s (codes "<<") then Some mark.ShiftLeft else
    if bytes_eq s (codes ">>") then Some mark.ShiftRight else
    if bytes_eq s (codes "&") then Some mark.Ampersand else None

-- comparisons, logical operators and the rest on bits
unfoldable pub logic_of : List ℕ → Option Mark
logic_of s = if bytes_eq s (codes "^") then Some mark.Caret else
    if bytes_eq s (codes "|") then Some mark.Bar else
    if bytes_eq s (codes "~") then Some mark.Tilde else
    if bytes_eq s (codes "<") then Some mark.Less else
    if bytes_eq s (codes ">") then Some mark.Greater else
    if bytes_eq s (codes "<=") then Some mark.LessEqual else
    if bytes_eq s (codes ">=") then Some mark.GreaterEqual else
    if bytes_eq s (codes "==") then Some mark.Equal else
    if bytes_eq s (codes "!=") then Some mark.NotEqual else
    if bytes_eq s (codes "!") then Some mark.Exclamation else
    if bytes_eq s (codes "&&") then Some mark.AndAnd else
    if bytes_eq s (codes "||") then Some mark.OrOr else None

-- assignments
unfoldable pub assignment_of : List ℕ → Option Mark
assignment_of s = if bytes_eq s (codes "=") then Some mark.Assign else
    if bytes_eq s (codes "*=") then Some mark.StarAssign else
    if bytes_eq s (codes "/=") then Some mark.SlashAssign else
    if bytes_eq s (codes "%=") then Some mark.PercentAssign else
    if bytes_eq s (codes "+=") then Some mark.PlusAssign else
    if bytes_eq s (codes "-=") then Some mark.MinusAssign else
    if bytes_eq s (codes "<<=") then Some mark.ShiftLeftAssign else
    if bytes_eq s (codes ">>=") then Some mark.ShiftRightAssign else
    if bytes_eq s (codes "&=") then Some mark.AmpersandAssign else
    if bytes_eq s (codes "^=") then Some mark.CaretAssign else
    if bytes_eq s (codes "|=") then Some mark.BarAssign else None

abbrev pub or_else : Option Mark → Option Mark → Option Mark
or_else None other = other
or_else (Some m) other = Some m

-- the punctuator with this spelling, if it is one of the profile
unfoldable pub mark_of : List ℕ → Option Mark
mark_of s = or_else (bracket_of s) (or_else (arithmetic_of s) (or_else (logic_of s) (or_else (assignment_of s) (digraph_of s))))
