-- What the program keeps of the words so far, and what a piece more makes of it.
use Rattle.std.specs.Prelude.{◌≡◌, ℕ, ◌+◌, List, [], ◌∷◌, ◌++◌, length, map, Option, Some, None, Bool, true, false, if◌then◌else◌}
use Rattle.std.specs.Str.{bytes_eq}
use Rattle.c_token.specs.declared.token.CSpanned.{CSpanned}
use Rattle.c_words.specs.declared.words.Words.{Words}
use Rattle.c_words.specs.declared.made.Made.{Made}
use Rattle.c_words.specs.Pieces.{Piece, pieces, is_literal}
use Rattle.c_words.specs.Numbering.{name_in, names_of, literal_with, literals_of, word_with, words_of, place_of, count_of}

-- ---- names

abbrev pub is_among : List (List ℕ) → List ℕ → Bool
is_among [] s = false
is_among (k ∷ ks) s = if bytes_eq s k then true else is_among ks s

-- the names that were met, and one more
abbrev pub met : List (List ℕ) → List ℕ → List (List ℕ)
met names s = if is_among names s then names else names ++ s ∷ []

abbrev pub met_some : List (List ℕ) → Option (List ℕ) → List (List ℕ)
met_some names None = names
met_some names (Some s) = met names s

-- ---- pieces

-- the string literals that stand first
unfoldable pub literals_before : List CSpanned → List CSpanned
literals_before [] = []
literals_before (t ∷ ts) = if is_literal t.token then t ∷ literals_before ts else []

-- and what stands behind them
unfoldable pub behind_literals : List CSpanned → List CSpanned
behind_literals [] = []
behind_literals (t ∷ ts) = if is_literal t.token then behind_literals ts else t ∷ ts

-- the string literals that are one with a token
abbrev pub others_of : CSpanned → List CSpanned → List CSpanned
others_of t ts = if is_literal t.token then literals_before ts else []

abbrev pub behind_piece : CSpanned → List CSpanned → List CSpanned
behind_piece t ts = if is_literal t.token then behind_literals ts else ts

-- ---- a piece more

abbrev pub with_literal : List (List ℕ) → Option (List ℕ) → List (List ℕ)
with_literal literals None = literals
with_literal literals (Some bytes) = literals ++ bytes ∷ []

abbrev pub put : Made → CSpanned → List CSpanned → Made
put made t others = record {
  names = met_some made.names (name_in t.token);
  literals = with_literal made.literals (literal_with t.token others);
  words = made.words ++ word_with (met_some made.names (name_in t.token)) (length made.literals) t.token others ∷ [];
  places = made.places ++ t.place ∷ [];
  counts = made.counts ++ (length others + 1) ∷ [];
}

abbrev pub nothing : Made
nothing = record { names = []; literals = []; words = []; places = []; counts = [] }

unfoldable pub all_put : Made → List Piece → Made
all_put made [] = made
all_put made (p ∷ ps) = all_put (put made p.first p.others) ps

-- ---- the whole

-- what the words of a text are
pub record AreWords (ts : List CSpanned) (w : Words) : Type 0 where
  -- each name once, in the order in which the text has them first
  pub names : w.names ≡ names_of (pieces ts)
  -- the bytes of each string literal, in the order of the text
  pub literals : w.literals ≡ literals_of (pieces ts)
  -- a word for each piece
  pub words : w.words ≡ words_of (names_of (pieces ts)) 0 (pieces ts)
  -- and its place, and how many tokens it has
  pub places : w.places ≡ map place_of (pieces ts)
  pub counts : w.counts ≡ map count_of (pieces ts)
