-- A whole text read from left to right: its pieces, and what each of them gives.
use Rattle.std.specs.Prelude.{ℕ, zero, suc, ◌-◌, List, [], ◌∷◌, ◌++◌, length, map, take, Option, Some, None, Bool, true, false}
use Rattle.c_text.specs.declared.kind.Kind.{Kind}
use Rattle.c_text.specs.declared.kind.Lexeme.{Lexeme}
use Rattle.c_text.specs.Characters.{Character, characters, joined}
use Rattle.c_text.specs.Pieces.{Found, piece_at}

-- what a piece is, or white space, and its characters
abbrev pub Cut : Type 0
Cut = Option Kind × List Character

abbrev pub spelled_by : List Character → List Character → List Character
spelled_by text rest = take (length text - length rest) text

abbrev pub cut_of : List Character → Found → Cut
cut_of text found = (found.0, spelled_by text found.1)

-- the pieces of a text, which are no more than its characters
unfoldable pub cuts : ℕ → List Character → List Cut
cuts k [] = []
cuts zero (c ∷ cs) = []
cuts (suc k) (c ∷ cs) = cut_of (c ∷ cs) (piece_at (c ∷ cs)) ∷ cuts k (piece_at (c ∷ cs)).1

-- the lexeme that a piece gives
abbrev pub given : Option Kind → Bool → List Character → List Lexeme
given None after_blank cs = []
given (Some k) after_blank [] = []
given (Some k) after_blank (c ∷ cs) = record { kind = k; spelling = map (λ d. d.byte) (c ∷ cs); point = c.point; after_blank = after_blank } ∷ []

abbrev pub is_white : Option Kind → Bool
is_white None = true
is_white (Some k) = false

-- the lexemes that pieces give
abbrev pub lexemes_from : Bool → List Cut → List Lexeme
lexemes_from after_blank [] = []
lexemes_from after_blank (x ∷ xs) = given x.0 after_blank x.1 ++ lexemes_from (is_white x.0) xs

-- the characters of a text whose lines are joined
abbrev pub text_of : List ℕ → List Character
text_of bytes = joined false (characters 0 1 1 bytes)

-- the lexemes of a text
abbrev pub lexemes_in : List ℕ → List Lexeme
lexemes_in bytes = lexemes_from false (cuts (length (text_of bytes)) (text_of bytes))
