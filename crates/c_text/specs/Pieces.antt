-- The pieces of a text: preprocessing tokens, and what stands between them (ISO/IEC 9899:2011, 6.4).
use Rattle.std.specs.Prelude.{ℕ, ◌-◌, List, [], ◌∷◌, drop, Option, Some, None, Bool, true, false, ◌==◌, ◌||◌, if◌then◌else◌}
pub use Rattle.c_text.specs.declared.kind.Kind.{Kind}
use Rattle.c_text.specs.declared.kind.Kind.TheVariants as kind
use Rattle.c_text.specs.Classes.{Class, Letter, Digit, Blank, LineEnd, Quote, Slash, Dot, Mark, Backslash, Foreign, class_of}
use Rattle.c_text.specs.Characters.{Character}
use Rattle.c_text.specs.Rests.{choose, byte_at, digit_is_next, word_rest, number_rest, line_rest, comment_rest, literal_rest}
use Rattle.c_text.specs.Marks.{mark_length}

-- what a piece is, or white space, and what stands behind it
abbrev pub Found : Type 0
Found = Option Kind × List Character

abbrev pub quote_of : Class → ℕ → List Character → Option (ℕ × List Character)
quote_of Quote c cs = Some (c, cs)
quote_of _ c cs = None

-- the quote that stands first, and what stands behind it
unfoldable pub quote_at : List Character → Option (ℕ × List Character)
quote_at [] = None
quote_at (c ∷ cs) = quote_of (class_of c.byte) c.byte cs

-- behind the u of u8": the quote, and what stands behind it
abbrev pub eight_at : ℕ → List Character → Option (ℕ × List Character)
eight_at first cs = choose (byte_at 56 cs) None (λ r. choose (byte_at 34 r) None (λ s. if first == 117 then Some (34, s) else None))

-- behind the first character of L' u' U' L" u" U" u8" (6.4.4.4, 6.4.5): the quote, and what stands behind it
unfoldable pub prefixed_at : ℕ → List Character → Option (ℕ × List Character)
prefixed_at first cs = if (first == 76) || (first == 117) || (first == 85) then choose (quote_at cs) (eight_at first cs) Some else None

abbrev pub kind_of_quote : ℕ → Kind
kind_of_quote quote = if quote == 34 then kind.Text else kind.Character

abbrev pub literal_of : ℕ → Bool × List Character → Found
literal_of quote (true, rest) = (Some (kind_of_quote quote), rest)
literal_of quote (false, rest) = (Some kind.OpenText, rest)

-- a literal behind its first quote
unfoldable pub literal_at : ℕ → List Character → Found
literal_at quote cs = literal_of quote (literal_rest false quote cs)

-- what a letter begins: a literal with a prefix, or an identifier
unfoldable pub word_at : ℕ → List Character → Found
word_at first cs = choose (prefixed_at first cs) (Some kind.Name, word_rest cs) (λ q. literal_at q.0 q.1)

-- the longest punctuator that a text begins with; the characters behind its first stand apart
unfoldable pub mark_at : List Character → List Character → Found
mark_at text behind = (Some kind.Mark, drop (mark_length text - 1) behind)

abbrev pub comment_of : Option (List Character) → Found
comment_of None = (Some kind.OpenText, [])
comment_of (Some rest) = (None, rest)

-- what a slash begins: a comment, or a punctuator
unfoldable pub slash_at : List Character → List Character → Found
slash_at text behind = choose (byte_at 47 behind) (choose (byte_at 42 behind) (mark_at text behind) (λ r. comment_of (comment_rest r))) (λ r. (None, line_rest r))

-- what a dot begins: a number, or a punctuator
unfoldable pub dot_at : List Character → List Character → Found
dot_at text behind = if digit_is_next behind then (Some kind.Number, number_rest false behind) else mark_at text behind

-- the piece that a character of this class begins
abbrev pub piece_of : Class → Character → List Character → Found
piece_of Letter c cs = word_at c.byte cs
piece_of Digit c cs = (Some kind.Number, number_rest false cs)
piece_of Blank c cs = (None, cs)
piece_of LineEnd c cs = (Some kind.LineEnd, cs)
piece_of Quote c cs = literal_at c.byte cs
piece_of Slash c cs = slash_at (c ∷ cs) cs
piece_of Dot c cs = dot_at (c ∷ cs) cs
piece_of Mark c cs = mark_at (c ∷ cs) cs
piece_of Backslash c cs = (Some kind.Other, cs)
piece_of Foreign c cs = (Some kind.ForeignByte, cs)

-- the piece that stands first, and what stands behind it
unfoldable pub piece_at : List Character → Found
piece_at [] = (None, [])
piece_at (c ∷ cs) = piece_of (class_of c.byte) c cs
