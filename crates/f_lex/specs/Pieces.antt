-- The pieces of a source text: tokens (ISO/IEC 1539-1:2018, 6.2), and what stands between them (6.3.2).
use Rattle.std.specs.Prelude.{ℕ, ◌+◌, List, [], ◌∷◌, length, Option, Some, None, Bool, if◌then◌else◌}
use Rattle.f_lex.specs.declared.class.Run.TheVariants as run
use Rattle.f_lex.specs.declared.fault.Rule.TheVariants as rule
use Rattle.f_lex.specs.declared.lines.Context.TheVariants.{Outside}
use Rattle.f_lex.specs.declared.text.Body.{Body}
use Rattle.f_lex.specs.declared.token.Mark.TheVariants as mark
use Rattle.f_lex.specs.declared.token.Kind.{Kind}
use Rattle.f_lex.specs.declared.token.Kind.TheVariants as kind
use Rattle.f_lex.specs.declared.token.Token.{Token}
use Rattle.f_lex.specs.declared.token.Token.TheVariants as token
use Rattle.f_lex.specs.declared.words.DotWord.{DotWord}
use Rattle.f_lex.specs.declared.words.DotWord.TheVariants as dotted
use Rattle.f_lex.specs.declared.piece.Piece.{Piece}
use Rattle.f_lex.specs.declared.piece.Piece.TheVariants as piece
use Rattle.f_lex.specs.Characters.{Class, Letter, Digit, Underscore, Blank, LineEnd, Exclamation, Ampersand, Quote, Semicolon, Dot, Mark, Unused, Foreign, Nothing, class_at}
use Rattle.f_lex.specs.Lines.{choose, run_at, byte_at, ends_line, goes_on_at}
use Rattle.f_lex.specs.Texts.{body_at}
use Rattle.f_lex.specs.Words.{lowered, kind_at, kind_quote_at, dot_word, mark_at}

abbrev pub dot : ℕ
dot = 46

abbrev pub whole : Token → Piece
whole t = piece.Token t 0 None

abbrev pub text_of : Option Kind → Body × List ℕ → Piece × List ℕ
text_of k x = (piece.Token (token.Text x.0.bytes k) x.0.passed x.0.broken, x.1)

-- a text behind its kind and its first delimiter (7.4.4)
unfoldable pub text_at : Option Kind → ℕ → List ℕ → Piece × List ℕ
text_at k quote cs = text_of k (body_at (length cs + 1) quote [] 0 cs)

abbrev pub word_of : List ℕ × List ℕ → Piece × List ℕ
word_of s = choose (kind_quote_at s.1) (whole (token.Name (lowered s.0)), s.1) (λ q. text_at (Some (kind.Name (lowered s.0))) q.0 q.1)

-- what a letter begins: a name or keyword (6.2.2), or a text whose kind is a name
unfoldable pub word_at : List ℕ → Piece × List ℕ
word_at cs = word_of (run_at run.Word cs)

abbrev pub number_with : List ℕ → Option Kind × List ℕ → Piece × List ℕ
number_with digits k = (whole (token.Number (lowered digits) k.0), k.1)

abbrev pub number_of_run : List ℕ × List ℕ → Piece × List ℕ
number_of_run s = choose (kind_quote_at s.1) (number_with s.0 (kind_at s.1)) (λ q. text_at (Some (kind.Number (lowered s.0))) q.0 q.1)

-- what a digit begins: a number (7.4.3.1), or a text whose kind is a number
unfoldable pub number_at : List ℕ → Piece × List ℕ
number_at cs = number_of_run (run_at run.Digits cs)

abbrev pub truth_with : Bool → Option Kind × List ℕ → Piece × List ℕ
truth_with value k = (whole (token.Truth value k.0), k.1)

abbrev pub dotted_piece : DotWord → List ℕ → Piece × List ℕ
dotted_piece (dotted.Operator m) r = (whole (token.Mark m), r)
dotted_piece (dotted.Truth value) r = truth_with value (kind_at r)

abbrev pub dotted_of : List ℕ → List ℕ × List ℕ → Piece × List ℕ
dotted_of cs s = choose (byte_at dot s.1) (piece.Ill rule.NoToken, cs) (λ r. choose (dot_word (lowered s.0)) (piece.Ill rule.NoToken, cs) (λ w. dotted_piece w r))

-- what a dot begins, with what stands behind it: `..`, an operator in letters or a logical value (7.4.5)
unfoldable pub dot_at : List ℕ → Piece × List ℕ
dot_at cs = choose (byte_at dot cs) (dotted_of cs (run_at run.Letters cs)) (λ r. (whole (token.Mark mark.DotDot), r))

abbrev pub joined_or_lost : List ℕ → Option (List ℕ) → Piece × List ℕ
joined_or_lost cs None = (piece.Lost, cs)
joined_or_lost cs (Some r) = (piece.Joined, r)

-- what an `&` begins, with what stands behind it
unfoldable pub ampersand_at : List ℕ → Piece × List ℕ
ampersand_at cs = if ends_line Outside cs then joined_or_lost cs (goes_on_at Outside cs) else (piece.Ill rule.NoToken, cs)

abbrev pub marked : List ℕ → Piece × List ℕ
marked [] = (piece.LineEnd, [])
marked (c ∷ cs) = (whole (token.Mark (mark_at c cs).0), (mark_at c cs).1)

-- the piece that a character of this class begins
abbrev pub piece_of : Class → ℕ → List ℕ → Piece × List ℕ
piece_of Letter c cs = word_at (c ∷ cs)
piece_of Digit c cs = number_at (c ∷ cs)
piece_of Quote c cs = text_at None c cs
piece_of Dot c cs = dot_at cs
piece_of Mark c cs = marked (c ∷ cs)
piece_of Blank c cs = (piece.Blank, (run_at run.Blanks cs).1)
piece_of Exclamation c cs = (piece.Blank, (run_at run.Comment cs).1)
piece_of Ampersand c cs = ampersand_at cs
piece_of LineEnd c cs = (piece.LineEnd, cs)
piece_of Semicolon c cs = (piece.Semicolon, cs)
piece_of Underscore c cs = (piece.Ill rule.NoToken, cs)
piece_of Unused c cs = (piece.Ill rule.NoToken, cs)
piece_of Foreign c cs = (piece.Ill rule.ForeignByte, cs)
piece_of Nothing c cs = (piece.Ill rule.ForeignByte, cs)

-- the piece that stands first, and the rest
unfoldable pub piece_at : List ℕ → Piece × List ℕ
piece_at [] = (piece.LineEnd, [])
piece_at (c ∷ cs) = piece_of (class_at (c ∷ cs)) c cs
