-- A whole source text read from left to right: its pieces, its tokens, and which rules it breaks (ISO/IEC 1539-1:2018, 6.3.2).
use Rattle.std.specs.Prelude.{◌≡◌, ℕ, zero, suc, ◌+◌, ◌-◌, ◌≤◌, List, [], ◌∷◌, ◌++◌, length, take, option_to_list, Option, None, true}
use Rattle.f_lex.specs.declared.piece.Piece.{Piece}
use Rattle.f_lex.specs.declared.piece.Piece.TheVariants as piece
use Rattle.f_lex.specs.declared.token.Spanned.{Spanned}
use Rattle.f_lex.specs.declared.reader.Point.{Point}
use Rattle.f_lex.specs.declared.reader.Fault.{Fault}
use Rattle.f_lex.specs.declared.reader.Position.{Position}
use Rattle.f_lex.specs.Pieces.{piece_at}
use Rattle.f_lex.specs.Rules.{least, advanced, token_break, piece_break, count_break, length_break, moved, given, long_lines}

-- a piece and its bytes
abbrev pub Cut : Type 0
Cut = Piece × List ℕ

abbrev pub spelled_by : List ℕ → List ℕ → List ℕ
spelled_by bytes rest = take (length bytes - length rest) bytes

-- the pieces of a text, which are no more than its bytes, and the line end that the end of the file stands for
unfoldable pub cuts : ℕ → List ℕ → List Cut
cuts k [] = (piece.LineEnd, []) ∷ []
cuts zero (c ∷ cs) = []
cuts (suc k) (c ∷ cs) = ((piece_at (c ∷ cs)).0, spelled_by (c ∷ cs) (piece_at (c ∷ cs)).1) ∷ cuts k (piece_at (c ∷ cs)).1

abbrev pub point_behind : Position → Cut → Point
point_behind at x = advanced at.point x.1

abbrev pub position_behind : Position → Cut → Position
position_behind at x = moved at x.0 (length x.1) (point_behind at x)

-- which rules each piece breaks
abbrev pub breaks_from : Position → List Cut → List (Option Fault)
breaks_from at [] = []
breaks_from at (x ∷ xs) = token_break at x.0 ∷ piece_break at x.0 (point_behind at x) ∷ count_break at x.0 ∷ length_break at x.0 (length x.1) ∷ breaks_from (position_behind at x) xs

-- the tokens that the pieces give
abbrev pub tokens_from : ℕ → Position → List Cut → List Spanned
tokens_from file at [] = []
tokens_from file at (x ∷ xs) = option_to_list (given file at x.0 (length x.1)) ++ tokens_from file (position_behind at x) xs

abbrev pub first_point : Point
first_point = record { line = 1; column = 1 }

-- where a text begins, behind so many tokens of other files
abbrev pub start : ℕ → Position
start before = record { offset = 0; point = first_point; first_on_line = true; statement = None; characters = 0; tokens = before }

-- which rules the lines and the pieces of a text break
abbrev pub breaks_of : ℕ → List ℕ → List (Option Fault)
breaks_of before bytes = long_lines 1 0 bytes ++ breaks_from (start before) (cuts (length bytes) bytes)

-- the tokens of a text
abbrev pub tokens_of : ℕ → ℕ → List ℕ → List Spanned
tokens_of file before bytes = tokens_from file (start before) (cuts (length bytes) bytes)

-- what reading all pieces finds: the first broken rule of those that are asked, or the tokens
pub record IsFound (file before : ℕ) (bytes : List ℕ) (broken : Option Fault) (tokens : List Spanned) : Type 0 where
  pub first : broken ≡ least None (breaks_of before bytes)
  pub all : broken ≡ None → tokens ≡ tokens_of file before bytes

-- a piece of so many bytes has room here
pub record IsRoom (at : Position) (len : ℕ) : Type 0 where
  pub offset : at.offset + len ≤ 1048576
  pub line : at.point.line ≤ at.offset + 1
  pub column : at.point.column ≤ at.offset + 1
  pub first : 1 ≤ at.point.column
  pub characters : at.characters ≤ at.offset
  pub tokens : at.tokens ≤ 262144 + at.offset
