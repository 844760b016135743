-- What the pieces of a text give: tokens, and where they break a rule.
use Rattle.std.specs.Prelude.{ℕ, ◌+◌, ◌-◌, List, [], ◌∷◌, length, Option, Some, None, is_some, Bool, true, false, ◌==◌, ◌&&◌, not, nat_lt, nat_le, if◌then◌else◌}
use Rattle.f_lex.specs.declared.fault.Rule.{Rule}
use Rattle.f_lex.specs.declared.fault.Rule.TheVariants as rule
use Rattle.f_lex.specs.declared.piece.Piece.{Piece}
use Rattle.f_lex.specs.declared.piece.Piece.TheVariants as piece
use Rattle.f_lex.specs.declared.token.Kind.{Kind}
use Rattle.f_lex.specs.declared.token.Kind.TheVariants as kind
use Rattle.f_lex.specs.declared.token.Token.{Token}
use Rattle.f_lex.specs.declared.token.Token.TheVariants as token
use Rattle.f_lex.specs.declared.token.Spanned.{Spanned}
use Rattle.f_lex.specs.declared.reader.Point.{Point}
use Rattle.f_lex.specs.declared.reader.Fault.{Fault}
use Rattle.f_lex.specs.declared.reader.Position.{Position}
use Rattle.f_lex.specs.Characters.{carriage_return, line_feed, is_next}
use Rattle.f_lex.specs.Words.{number_of}

-- ---- rules and their order

-- the numbers of the tags L01 to L08
abbrev pub tag_number : Rule → ℕ
tag_number rule.LongLine = 101
tag_number rule.LongName = 102
tag_number rule.ForeignByte = 103
tag_number rule.OpenText = 104
tag_number rule.LostLine = 105
tag_number rule.NoToken = 106
tag_number rule.TooMany = 107
tag_number rule.LongStatement = 108

-- at an earlier place, or at the same place with a smaller tag
unfoldable pub is_before : Fault → Fault → Bool
is_before a b = if not (a.point.line == b.point.line) then nat_lt a.point.line b.point.line
    else if not (a.point.column == b.point.column) then nat_lt a.point.column b.point.column else nat_lt (tag_number a.rule) (tag_number b.rule)

-- the first of both, if there is one
unfoldable pub reported : Option Fault → Option Fault → Option Fault
reported (Some a) (Some b) = if is_before b a then Some b else Some a
reported None (Some b) = Some b
reported (Some a) None = Some a
reported None None = None

-- the first of all, if there is one
abbrev pub least : Option Fault → List (Option Fault) → Option Fault
least first [] = first
least first (f ∷ fs) = least (reported first f) fs

-- ---- places

abbrev pub next_point : Point → ℕ → Point
next_point p c = if c == line_feed then record { line = p.line + 1; column = 1 } else record { line = p.line; column = p.column + 1 }

-- where what stands behind these bytes stands
abbrev pub advanced : Point → List ℕ → Point
advanced p [] = p
advanced p (c ∷ cs) = advanced (next_point p c) cs

-- where a piece breaks a rule: at its first byte, or on the line of the last `&`, where it ends
abbrev pub rule_place : Rule → Point → Point → Point
rule_place rule.LostLine point behind = record { line = behind.line; column = 1 }
rule_place _ point behind = point

-- ---- rules that a token or another piece breaks by itself

-- a name has at most 63 characters (6.2.2), and digits stand for a number below 2 to the power of 63
unfoldable pub kind_rule : Option Kind → Option Rule
kind_rule None = None
kind_rule (Some (kind.Name cs)) = if nat_lt 63 (length cs) then Some rule.LongName else None
kind_rule (Some (kind.Number ds)) = if nat_lt (number_of ds) 9223372036854775808 then None else Some rule.NoToken

abbrev pub or_rule : Option Rule → Option Rule → Option Rule
or_rule (Some r) other = Some r
or_rule None other = other

-- the first rule that a token breaks
unfoldable pub token_rule : Token → Option Rule
token_rule (token.Name cs) = if nat_lt 63 (length cs) then Some rule.LongName else None
token_rule (token.Number ds k) = or_rule (kind_rule k) (if nat_lt (number_of ds) 9223372036854775808 then None else Some rule.NoToken)
token_rule (token.Truth value k) = kind_rule k
token_rule (token.Text cs k) = kind_rule k
token_rule (token.Mark m) = None
token_rule token.End = None

abbrev pub fault_at : Point → Option Rule → Option Fault
fault_at p None = None
fault_at p (Some r) = Some (record { point = p; rule = r })

unfoldable pub token_break : Position → Piece → Option Fault
token_break at (piece.Token t passed broken) = fault_at at.point (token_rule t)
token_break at _ = None

-- an `&` that stands first on a line which continues nothing begins no token (6.3.2.4)
abbrev pub piece_rule : Position → Piece → Option Rule
piece_rule at (piece.Token t passed broken) = broken
piece_rule at (piece.Ill r) = Some r
piece_rule at piece.Joined = if at.first_on_line then Some rule.NoToken else None
piece_rule at piece.Lost = if at.first_on_line then Some rule.NoToken else Some rule.LostLine
piece_rule at _ = None

abbrev pub placed_fault : Point → Point → Option Rule → Option Fault
placed_fault point behind None = None
placed_fault point behind (Some r) = Some (record { point = rule_place r point behind; rule = r })

unfoldable pub piece_break : Position → Piece → Point → Option Fault
piece_break at p behind = placed_fault at.point behind (piece_rule at p)

-- ---- tokens and statements

-- the piece is a token, or ends a statement that has tokens: a line end, the end of the file or `;` (6.3.2.5)
abbrev pub gives_token : Position → Piece → Bool
gives_token at (piece.Token t passed broken) = true
gives_token at piece.LineEnd = is_some at.statement
gives_token at piece.Semicolon = is_some at.statement
gives_token at _ = false

-- all files have at most 262,144 tokens
unfoldable pub count_break : Position → Piece → Option Fault
count_break at p = if gives_token at p && nat_le 262144 at.tokens then Some (record { point = at.point; rule = rule.TooMany }) else None

-- the characters of the statement's tokens up to this piece
abbrev pub characters_with : Position → Piece → ℕ → ℕ
characters_with at (piece.Token t passed broken) len = at.characters + (len - passed)
characters_with at piece.LineEnd len = 0
characters_with at piece.Semicolon len = 0
characters_with at _ len = at.characters

-- the first token of the statement up to this piece
abbrev pub first_of : Option Point → Point → Point
first_of (Some p) q = p
first_of None q = q

abbrev pub statement_with : Position → Piece → Option Point
statement_with at (piece.Token t passed broken) = Some (first_of at.statement at.point)
statement_with at piece.LineEnd = None
statement_with at piece.Semicolon = None
statement_with at _ = at.statement

abbrev pub length_of : Option Point → ℕ → Option Fault
length_of None n = None
length_of (Some p) n = if nat_lt 1000000 n then Some (record { point = p; rule = rule.LongStatement }) else None

-- a statement has at most 1,000,000 characters (ISO/IEC 1539-1:2023, 6.3.2.6)
unfoldable pub length_break : Position → Piece → ℕ → Option Fault
length_break at p len = length_of (statement_with at p) (characters_with at p len)

-- the first of a fault and those of a piece
unfoldable pub first_break : Option Fault → Position → Piece → ℕ → Point → Option Fault
first_break first at p len behind = reported (reported (reported (reported first (token_break at p)) (piece_break at p behind)) (count_break at p)) (length_break at p len)

abbrev pub first_on_line_behind : Position → Piece → Bool
first_on_line_behind at piece.LineEnd = true
first_on_line_behind at piece.Blank = at.first_on_line
first_on_line_behind at _ = false

-- where the piece behind stands
unfoldable pub moved : Position → Piece → ℕ → Point → Position
moved at p len behind = record {
  offset = at.offset + len;
  point = behind;
  first_on_line = first_on_line_behind at p;
  statement = statement_with at p;
  characters = characters_with at p len;
  tokens = if gives_token at p then at.tokens + 1 else at.tokens;
}

abbrev pub spanned : ℕ → Position → ℕ → Token → Spanned
spanned file at len t = record { token = t; start = at.offset; end = at.offset + len; place = record { file = file; line = at.point.line; column = at.point.column } }

-- the token that a piece gives
unfoldable pub given : ℕ → Position → Piece → ℕ → Option Spanned
given file at (piece.Token t passed broken) len = Some (spanned file at len t)
given file at piece.LineEnd len = if is_some at.statement then Some (spanned file at len token.End) else None
given file at piece.Semicolon len = if is_some at.statement then Some (spanned file at len token.End) else None
given file at _ len = None

-- ---- lines

abbrev pub long_line : ℕ → ℕ → Option Fault
long_line line characters = if nat_lt 10000 characters then Some (record { point = record { line = line; column = 1 }; rule = rule.LongLine }) else None

-- of each line whether it has more than 10,000 characters (ISO/IEC 1539-1:2023, 6.3.2.1); a carriage return before the line feed belongs to the line end
unfoldable pub long_lines : ℕ → ℕ → List ℕ → List (Option Fault)
long_lines line n [] = long_line line n ∷ []
long_lines line n (c ∷ cs) = if c == line_feed then long_line line n ∷ long_lines (line + 1) 0 cs
    else if (c == carriage_return) && is_next line_feed cs then long_lines line n cs else long_lines line (n + 1) cs
