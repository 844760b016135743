-- The text of tokens in free source form (ISO/IEC 1539-1:2018, 6.2 and 6.3.2): a blank between two tokens, and `&` where a line is full.
use Rattle.std.specs.Prelude.{ℕ, ◌+◌, ◌-◌, List, [], ◌∷◌, ◌++◌, length, Option, Some, None, Bool, true, false, ◌==◌, nat_lt, codes, if◌then◌else◌}
use Rattle.f_lex.specs.declared.token.Mark.{Mark}
use Rattle.f_lex.specs.declared.token.Mark.TheVariants as mark
use Rattle.f_lex.specs.declared.token.Kind.{Kind}
use Rattle.f_lex.specs.declared.token.Kind.TheVariants as kind
use Rattle.f_lex.specs.declared.token.Token.{Token}
use Rattle.f_lex.specs.declared.token.Token.TheVariants as token
use Rattle.f_tree.specs.declared.lexeme.Lexeme.{Lexeme}
use Rattle.f_tree.specs.declared.page.Line.{Line}

-- ---- the characters of a token

unfoldable pub mark_text : Mark → List ℕ
mark_text mark.Open = codes "("
mark_text mark.Close = codes ")"
mark_text mark.OpenBracket = codes "["
mark_text mark.CloseBracket = codes "]"
mark_text mark.Comma = codes ","
mark_text mark.Percent = codes "%"
mark_text mark.Colon = codes ":"
mark_text mark.DoubleColon = codes "::"
mark_text mark.DotDot = codes ".."
mark_text mark.Assign = codes "="
mark_text mark.Arrow = codes "=>"
mark_text mark.Plus = codes "+"
mark_text mark.Minus = codes "-"
mark_text mark.Star = codes "*"
mark_text mark.Power = codes "**"
mark_text mark.Slash = codes "/"
mark_text mark.Concat = codes "//"
mark_text mark.Equal = codes "=="
mark_text mark.NotEqual = codes "/="
mark_text mark.Less = codes "<"
mark_text mark.LessEqual = codes "<="
mark_text mark.Greater = codes ">"
mark_text mark.GreaterEqual = codes ">="
mark_text mark.DotEq = codes ".eq."
mark_text mark.DotNe = codes ".ne."
mark_text mark.DotLt = codes ".lt."
mark_text mark.DotLe = codes ".le."
mark_text mark.DotGt = codes ".gt."
mark_text mark.DotGe = codes ".ge."
mark_text mark.Not = codes ".not."
mark_text mark.And = codes ".and."
mark_text mark.Or = codes ".or."
mark_text mark.Eqv = codes ".eqv."
mark_text mark.Neqv = codes ".neqv."

abbrev pub kind_text : Kind → List ℕ
kind_text (kind.Number digits) = digits
kind_text (kind.Name name) = name

-- a kind behind a literal (7.4.3.1)
abbrev pub behind_literal : Option Kind → List ℕ
behind_literal None = []
behind_literal (Some k) = 95 ∷ kind_text k

-- a kind before a text (7.4.4)
abbrev pub before_text : Option Kind → List ℕ
before_text None = []
before_text (Some k) = kind_text k ++ 95 ∷ []

abbrev pub truth_text : Bool → List ℕ
truth_text true = codes ".true."
truth_text false = codes ".false."

-- ---- lines

-- characters, and how far the line has come behind them
abbrev pub Written : Type 0
Written = List ℕ × Line

abbrev pub and_then : Written → (Line → Written) → Written
and_then x f = (x.0 ++ (f x.1).0, (f x.1).1)

-- a line in which nothing stands
abbrev pub fresh : Line
fresh = record { is_begun = false; room = 130 }

-- a line with so much room
abbrev pub begun : ℕ → Line
begun n = record { is_begun = true; room = n }

-- what stands before a token: nothing at a line's begin, else a blank, and where the token has no room in the line, `&` and the line's end (6.3.2.4)
unfoldable pub opened : Bool → Line → Written
opened has_room l = if l.is_begun then (if has_room then (32 ∷ [], begun (l.room - 1)) else (32 ∷ 38 ∷ 10 ∷ [], begun 130)) else ([], l)

-- characters with nothing before them
unfoldable pub run : List ℕ → Line → Written
run w l = (w, begun (l.room - length w))

-- a token that isn't a text
unfoldable pub word : List ℕ → Line → Written
word w l = and_then (opened (nat_lt (length w) l.room) l) (run w)

-- a character of a text, where two delimiters are one (7.4.4)
abbrev pub doubled : ℕ → List ℕ
doubled c = if c == 39 then 39 ∷ 39 ∷ [] else c ∷ []

-- a character of a text; where it has no room in the line, the text goes on behind `&` in the next (6.3.2.4)
unfoldable pub character : ℕ → Line → Written
character c l = if nat_lt 2 l.room then run (doubled c) l else and_then (38 ∷ 10 ∷ 38 ∷ [], begun 129) (run (doubled c))

-- the characters of a text and its last delimiter
unfoldable pub characters : List ℕ → Line → Written
characters [] l = run (39 ∷ []) l
characters (c ∷ cs) l = and_then (character c l) (characters cs)

-- a text with its kind and its delimiters
unfoldable pub quoted : List ℕ → List ℕ → Line → Written
quoted before cs l = and_then (opened (nat_lt (length cs) (l.room - (length before + 2))) l) (λ l. and_then (run (before ++ 39 ∷ []) l) (characters cs))

unfoldable pub written : Token → Line → Written
written (token.Text bytes k) l = quoted (before_text k) bytes l
written token.End l = (10 ∷ [], fresh)
written (token.Name name) l = word name l
written (token.Number digits k) l = word (digits ++ behind_literal k) l
written (token.Truth value k) l = word (truth_text value ++ behind_literal k) l
written (token.Mark m) l = word (mark_text m) l

-- ---- texts

-- the text of tokens, in a line that has come so far
unfoldable pub text_from : Line → List Lexeme → List ℕ
text_from l [] = []
text_from l (t ∷ ts) = (written t.token l).0 ++ text_from (written t.token l).1 ts

-- the text of tokens
abbrev pub text_of : List Lexeme → List ℕ
text_of ts = text_from fresh ts
