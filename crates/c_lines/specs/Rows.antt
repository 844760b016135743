-- The lines of a text: its lexemes cut at their line ends (ISO/IEC 9899:2011, 6.10p2).
use Rattle.std.specs.Prelude.{ℕ, List, [], ◌∷◌, Bool, true, false, if◌then◌else◌}
use Rattle.c_text.specs.declared.kind.Kind.{Kind}
use Rattle.c_text.specs.declared.kind.Kind.TheVariants as kind
use Rattle.c_text.specs.declared.kind.Lexeme.{Lexeme}

-- the lexemes of a line, without its end
abbrev pub Row : Type 0
Row = List Lexeme

abbrev pub is_end : Kind → Bool
is_end kind.LineEnd = true
is_end _ = false

-- a lexeme in front of the first line
abbrev pub in_front : Lexeme → List Row → List Row
in_front l [] = (l ∷ []) ∷ []
in_front l (r ∷ rs) = (l ∷ r) ∷ rs

-- the lines of a text; the last may lack its end
unfoldable pub rows : List Lexeme → List Row
rows [] = []
rows (l ∷ ls) = if is_end l.kind then [] ∷ rows ls else in_front l (rows ls)

-- the first line, and what stands from its end on
unfoldable pub row_of : List Lexeme → Row
row_of [] = []
row_of (l ∷ ls) = if is_end l.kind then [] else l ∷ row_of ls

unfoldable pub row_rest : List Lexeme → List Lexeme
row_rest [] = []
row_rest (l ∷ ls) = if is_end l.kind then l ∷ ls else row_rest ls

-- what stands behind the first lexeme
abbrev pub behind_first : List Lexeme → List Lexeme
behind_first [] = []
behind_first (l ∷ ls) = ls
