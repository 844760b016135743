-- What the program does with a line.
use Rattle.std.specs.Prelude.{◌≡◌, ℕ, List, Bool, if◌then◌else◌, Option, Some, None, Result, Ok, Err}
use Rattle.jf_base.specs.declared.place.Place.{Place}
use Rattle.c_text.specs.declared.kind.Lexeme.{Lexeme}
use Rattle.c_lines.specs.declared.head.Head.{Head}
use Rattle.c_lines.specs.Rows.{Row}
use Rattle.c_define.specs.Numbers.{macros_of}
use Rattle.c_directives.specs.declared.origin.Origin.{Origin}
use Rattle.c_directives.specs.declared.stop.Stop.{Stop}
use Rattle.c_directives.specs.declared.stop.Stop.TheVariants as stop
use Rattle.c_directives.specs.declared.work.Pre.{Pre}
use Rattle.c_directives.specs.declared.line.Action.{Action}
use Rattle.c_directives.specs.Reads.{Read, At, ◌>>=◌}
use Rattle.c_lines.specs.Rules.{first_ill}
use Rattle.c_directives.specs.Texts.{Work, text_at}
use Rattle.c_directives.specs.Reading.{State, Including, Opens, Stand, with_opens, unless_ill, act_at, directive_at, line_at}

abbrev pub work_of : Pre → Work
work_of pre = record { macros = macros_of pre.macros; out = pre.out.items }

abbrev pub state_of : ℕ → Pre → State
state_of k pre = record { work = work_of pre; calls = k }

-- the line is done with, or is still to be acted on, where nothing is changed yet
abbrev pub Sorted : Result (Option Action) Stop → ℕ → Pre → Pre → Opens → Opens → Including → Read Stand → Type 0
Sorted (Ok None) k pre pre' os os' including r = r ≡ Ok (os', state_of k pre')
Sorted (Ok (Some a)) k pre pre' os os' including r = (os' ≡ os) × (work_of pre' ≡ work_of pre) × (r ≡ with_opens os (act_at including a.head (state_of k pre) a.place a.tail.now))
Sorted (Err stop.Memory) k pre pre' os os' including r = Unit {0}
Sorted (Err (stop.Library name)) k pre pre' os os' including r = ⊥
Sorted (Err (stop.At f)) k pre pre' os os' including r = r ≡ Err (At f)

abbrev pub SortsDirective : Result (Option Action) Stop → ℕ → Pre → Pre → Opens → Opens → Including → Head → Place → List Lexeme → Type 0
SortsDirective result k pre pre' os os' including h place tail = Sorted result k pre pre' os os' including (directive_at including h (os, state_of k pre) place tail)

abbrev pub Sorts : Result (Option Action) Stop → ℕ → Pre → Pre → Opens → Opens → Including → ℕ → Origin → Row → Type 0
Sorts result k pre pre' os os' including limit origin row = Sorted result k pre pre' os os' including (line_at including limit origin (os, state_of k pre) row)

-- a line of text, where lines are acted on or not
abbrev pub text_line : ℕ → Origin → Bool → Work → Row → Row → Read Work
text_line limit origin live w row ls = if live then text_at limit origin w ls else unless_ill origin (first_ill row) (Ok w)
