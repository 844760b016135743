-- What is open without its name, and what a function that takes memory answers.
use Rattle.std.specs.Prelude.{◌≡◌, List, map, reverse, Result, Ok, Err}
use Rattle.jf_base.specs.declared.place.Refusal.{Refusal}
use Rattle.jf_base.specs.declared.place.Refusal.TheVariants.{Memory, At}
use Rattle.f_placing.specs.Views.{view_state}
use Rattle.f_unit_grammar.specs.Rules as grammar
use Rattle.f_statement_grammar.specs.Statements.{Statement as Spelled}
use Rattle.f_statement_read.specs.declared.statement.Statement.{Statement}
use Rattle.f_statement_read.specs.Views.{view_statement}
use Rattle.std.specs.declared.vec.Vec.{Vec}
use Rattle.std.specs.declared.alloc.Global.{Global}
use Rattle.f_file_read.specs.declared.stack.Rule.{Rule as RuleHere}
use Rattle.f_file_read.specs.declared.stack.Rule.TheVariants as rule
use Rattle.f_file_read.specs.declared.stack.Opened.{Opened as OpenedHere}
use Rattle.f_file_read.specs.Reading.{Opened, Stop}

abbrev pub view_rule : RuleHere → grammar.Rule
view_rule rule.NoForm = grammar.NoForm
view_rule rule.Misplaced = grammar.Misplaced
view_rule rule.TooNested = grammar.TooNested

abbrev pub view_opened : OpenedHere → Opened
view_opened o = (view_state o.name o.state, o.depth, o.place)

-- the innermost lies last
abbrev pub view_open : List OpenedHere → List Opened
view_open os = reverse (map view_opened os)

-- What a function returned, seen by view, is what is read, unless memory was wanting.
abbrev pub Answers : {X Y : Type 0} → (X → Y) → Result X Refusal → Result Y Stop → Type 0
Answers view (Ok x) read = read ≡ Ok (view x)
Answers view (Err Memory) read = Unit {0}
Answers view (Err (At place tag)) read = read ≡ Err (place, tag)

-- what is open behind a statement, and the statement
abbrev pub view_read : Vec OpenedHere Global × Statement → List Opened × Spelled
view_read x = (view_open x.0.items, view_statement x.1)
