-- Reading statements one behind the other, with the place of the first that breaks a rule.
use Rattle.std.specs.Prelude.{ℕ, ◌+◌, nat_lt, List, [], ◌∷◌, ◌++◌, map, reverse, Option, Some, None, Bool, true, false, is_some, Result, Ok, Err}
use Rattle.jf_base.specs.declared.place.Place.{Place}
use Rattle.jf_base.specs.declared.tag.Tag.{Tag}
use Rattle.f_lex.specs.declared.token.Spanned.{Spanned}
use Rattle.f_expr_read.specs.Views.{tokens_of}
use Rattle.f_statement_grammar.specs.Statements.{Statement, statement_at}
use Rattle.f_unit_grammar.specs.Units.{State, File, Role, stays, enters, leaves, none, role, counts, deepest}
use Rattle.f_unit_grammar.specs.Placing.{Open}
use Rattle.f_unit_grammar.specs.Rules.{Rule, NoForm, Misplaced, TooNested, depth_of}
use Rattle.f_statement_cut.specs.Pieces.{Piece, pieces, place_or}
use Rattle.f_statement_cut.specs.Nesting.{too_deep_at}

-- What is open: its state, the nestings up to it, and where the statement that began it stands.
abbrev pub Opened : Type 0
Opened = State × ℕ × Place

-- without places
abbrev pub open_of : List Opened → Open
open_of os = map (λ (o : Opened). (o.0, o.1)) os

-- the tag of a rule
abbrev pub number_of : Rule → ℕ
number_of NoForm = 201
number_of Misplaced = 202
number_of TooNested = 203

abbrev pub tag_of : Rule → Tag
tag_of r = record { 0 = number_of r }

-- a place, and the tag of the rule that is broken there
abbrev pub Stop : Type 0
Stop = Place × Tag

abbrev pub stop : Place → Rule → Stop
stop at r = (at, tag_of r)

abbrev pub and_then : {A B : Type 0} → Result A Stop → (A → Result B Stop) → Result B Stop
and_then (Ok x) more = more x
and_then (Err e) more = Err e

-- ---- one statement

-- so many nestings and some more, unless they are too many
abbrev pub unless_deeper : Bool → ℕ → Option ℕ
unless_deeper true n = None
unless_deeper false n = Some n

abbrev pub deepened : ℕ → ℕ → Option ℕ
deepened d more = unless_deeper (nat_lt deepest (d + more)) (d + more)

abbrev pub entered : State → State → Option ℕ → ℕ → Place → Place → List Opened → Result (List Opened) Stop
entered after inner (Some deep) d began at rest = Ok ((inner, deep, at) ∷ (after, d, began) ∷ rest)
entered after inner None d began at rest = Err (stop at TooNested)

-- a statement that begins here, by what it does to the innermost that is open
abbrev pub moved : Role → Opened → Place → List Opened → Result (List Opened) Stop
moved (stays after) o at rest = Ok ((after, o.1, o.2) ∷ rest)
moved (enters after inner) o at rest = entered after inner (deepened o.1 (counts inner)) o.1 o.2 at rest
moved leaves o at rest = Ok rest
moved none o at rest = Err (stop at Misplaced)

unfoldable pub placed : List Opened → Place → Statement → Result (List Opened) Stop
placed [] at s = Err (stop at Misplaced)
placed (o ∷ rest) at s = moved (role o.0 s) o at rest

abbrev pub formed : List Opened → Place → Bool → Option Statement → Result (List Opened × Statement) Stop
formed os at true (Some s) = and_then (placed os at s) (λ next. Ok (next, s))
formed os at true None = Err (stop at NoForm)
formed os at false found = Err (stop at NoForm)

abbrev pub unless_nested : Option Place → Result (List Opened × Statement) Stop → Result (List Opened × Statement) Stop
unless_nested None read = read
unless_nested (Some place) read = Err (stop place TooNested)

-- the next statement, which begins here
unfoldable pub read_piece : List Opened → Place → Piece → Result (List Opened × Statement) Stop
read_piece os at p = unless_nested (too_deep_at (depth_of (open_of os)) 0 p.0) (formed os at (is_some p.1) (statement_at 65 (tokens_of p.0)))

-- ---- all statements

-- a place for a statement without a token, of which there is none
abbrev pub nowhere : Place
nowhere = record { file = 0; line = 0; column = 0 }

-- what is open, and the statements that were read
abbrev pub Reading : Type 0
Reading = List Opened × List Statement

abbrev pub read_behind : List Statement → List Opened × Statement → Reading
read_behind ss x = (x.0, ss ++ x.1 ∷ [])

unfoldable pub read_pieces : Reading → List Piece → Result Reading Stop
read_pieces x [] = Ok x
read_pieces x (p ∷ ps) = and_then (read_piece x.0 (place_or nowhere p) p) (λ y. read_pieces (read_behind x.1 y) ps)

-- where the unit begins that is open inside the file, which is the outermost
abbrev pub second : List Opened → Option Place
second (file ∷ unit ∷ inside) = Some unit.2
second _ = None

abbrev pub open_unit : List Opened → Option Place
open_unit os = second (reverse os)

abbrev pub unless_open : Option Place → List Statement → Result (List Statement) Stop
unless_open None ss = Ok ss
unless_open (Some place) ss = Err (stop place Misplaced)

abbrev pub at_end : Reading → Result (List Statement) Stop
at_end x = unless_open (open_unit x.0) x.1

-- nothing is open but the file
abbrev pub file_alone : List Opened
file_alone = (File, 0, nowhere) ∷ []

-- the statements of a file, or its first broken rule with its place
unfoldable pub read_file : List Spanned → Result (List Statement) Stop
read_file tokens = and_then (read_pieces (file_alone, []) (pieces tokens)) at_end
