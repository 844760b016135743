-- Placing statements one after the other.
use Rattle.std.specs.Prelude.{ℕ, ◌+◌, List, [], ◌∷◌, ◌++◌, Result, Ok, Err, nat_lt, if◌then◌else◌}
use Rattle.f_statement_grammar.specs.Statements.{Statement, spell_statement}
use Rattle.f_unit_grammar.specs.Units.{State, File, counts, Role, stays, enters, leaves, none, role, deepest, IsFile, deeper}

-- a statement has no place, or nests too deep
pub data Broken : Type 0 where
  NoPlace : Broken
  TooDeep : Broken

-- what is open, the innermost first, each with the nestings up to it
abbrev pub Open : Type 0
Open = List (State × ℕ)

abbrev pub placed : Role → ℕ → Open → Result Open Broken
placed (stays after) d rest = Ok ((after, d) ∷ rest)
placed (enters after inner) d rest = if nat_lt deepest (d + counts inner) then Err TooDeep else Ok ((inner, d + counts inner) ∷ (after, d) ∷ rest)
placed leaves d rest = Ok rest
placed none d rest = Err NoPlace

unfoldable pub step : Open → Statement → Result Open Broken
step [] s = Err NoPlace
step (o ∷ rest) s = if deeper o.1 0 (spell_statement s) then Err TooDeep else placed (role o.0 s) o.1 rest

abbrev pub and_on : Result Open Broken → (Open → Result Open Broken) → Result Open Broken
and_on (Ok o) more = more o
and_on (Err b) more = Err b

-- what is open behind statements
unfoldable pub run : Open → List Statement → Result Open Broken
run o [] = Ok o
run o (s ∷ ss) = and_on (step o s) (λ p. run p ss)

-- nothing is open but the file
abbrev pub at_file : Open
at_file = (File, 0) ∷ []

-- A file can begin with these statements.
abbrev pub Begins : List Statement → Type 0
Begins ss = (more : List Statement) × IsFile (ss ++ more)
