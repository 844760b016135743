-- A text may be read line by line (ISO/IEC 9899:2011, 5.1.1.2p1 and 6.4): what stands behind the end of a line changes nothing in front of it, unless a comment goes on there.
use Rattle.std.specs.Prelude.{◌≡◌, List, [], ◌∷◌, ◌++◌, length, Option, Some, Bool, true, false, if◌then◌else◌}
use Rattle.c_text.specs.declared.kind.Kind.{Kind}
use Rattle.c_text.specs.declared.kind.Kind.TheVariants as kind
use Rattle.c_text.specs.declared.kind.Lexeme.{Lexeme}
use Rattle.c_text.specs.Characters.{Character}
use Rattle.c_text.specs.Grammar.{Text}
use Rattle.c_text.specs.Source.{Cut, cuts, lexemes_from}

-- neither a comment nor a literal lacks its end
abbrev pub is_closed : Option Kind → Bool
is_closed (Some kind.OpenText) = false
is_closed _ = true

abbrev pub all_closed : List Cut → Bool
all_closed [] = true
all_closed (x ∷ xs) = if is_closed x.0 then all_closed xs else false

abbrev pub pieces_of : Text → List Cut
pieces_of text = cuts (length text) text

abbrev pub lexemes_of : Text → List Lexeme
lexemes_of text = lexemes_from false (pieces_of text)

-- where nothing in front of a line's end lacks its own end, the lexemes up to the line's end are the same whatever follows, and those of what follows stand behind them
abbrev pub LinesAreApart : Type 0
LinesAreApart = (line rest : Text) (end : Character) → end.byte ≡ 10 → all_closed (pieces_of line) ≡ true → lexemes_of (line ++ end ∷ rest) ≡ lexemes_of (line ++ end ∷ []) ++ lexemes_of rest
