-- Action statements without their places, and parts of their readers by what they are called for.
use Rattle.std.specs.Prelude.{ℕ, List, [], ◌∷◌, Option, Some, None, Bool, true, false, map}
use Rattle.std.specs.Option.{option_map}
use Rattle.f_lex.specs.declared.token.Token.{Token}
use Rattle.f_tree.specs.declared.expression.Expression.{Expression}
use Rattle.f_tree.specs.declared.expression.Reference.{Reference}
use Rattle.f_tree.specs.declared.statement.Action.{Action}
use Rattle.f_tree.specs.declared.statement.Action.TheVariants as action
use Rattle.f_grammar.specs.Grammar.{Expr, Refer, refer, named, no_parts, part, NoGroup, NoRange, range, Maybe, Absent, Present}
use Rattle.f_grammar.specs.Actions as act
use Rattle.f_grammar.specs.Actions.{Act, Refs, no_refs, ref, Exprs, no_exprs, expr, Status, NoStatus, status}
use Rattle.f_grammar.specs.Reading.{◌>>=◌, choose, comma_at, word_at}
use Rattle.f_grammar.specs.ActionReading.{ends_at}
use Rattle.f_expr_read.specs.Gives.{onto}
use Rattle.f_expr_read.specs.Views.{view, view_reference, view_argument, view_maybe, group_of}

abbrev pub refs_of : List Refer → Refs
refs_of rs = onto ref rs no_refs

abbrev pub exprs_of : List Expr → Exprs
exprs_of es = onto expr es no_exprs

abbrev pub status_of : Option Refer → Status
status_of None = NoStatus
status_of (Some r) = status r

abbrev pub view_status : Option Reference → Status
view_status r = status_of (option_map view_reference r)

-- a reference that no tokens spell: a range stands behind no arguments
abbrev pub no_reference : Refer
no_reference = refer (named [] NoGroup (range Absent Absent)) no_parts

-- What is made of the first of some references and the others. Where there is none it is made of one that no tokens spell.
abbrev pub over : List Refer → (Refer → Refs → Act) → Act
over [] make = make no_reference no_refs
over (r ∷ rs) make = make r (refs_of rs)

-- STOP or ERROR STOP
abbrev pub stop_of : Bool → Maybe → Act
stop_of true code = act.ErrorStop code
stop_of false code = act.Stop code

-- DEALLOCATE or ALLOCATE
abbrev pub allocation_of : Bool → Refer → Refs → Status → Act
allocation_of true r rs s = act.Deallocate r rs s
allocation_of false r rs s = act.Allocate r rs s

abbrev pub view_action : Action → Act
view_action (action.Assign target value) = act.Assign (view_reference target) (view value)
view_action (action.Associate target value) = act.Associate (view_reference target) (view value)
view_action (action.Call p name arguments) = act.Call name.bytes (group_of (option_map (map view_argument) arguments))
view_action (action.Exit p) = act.Exit
view_action (action.Cycle p) = act.Cycle
view_action (action.Return p) = act.Return
view_action (action.Stop p is_error code) = stop_of is_error (view_maybe code)
view_action (action.Allocate p objects s) = over (map view_reference objects) (λ r rs. act.Allocate r rs (view_status s))
view_action (action.Deallocate p objects s) = over (map view_reference objects) (λ r rs. act.Deallocate r rs (view_status s))
view_action (action.Nullify p objects) = over (map view_reference objects) act.Nullify
view_action (action.Print p items) = act.Print (exprs_of (map view items))
view_action (action.Read p targets) = over (map view_reference targets) act.Read
view_action (action.ReadUnit p s targets) = over (map view_reference targets) (act.ReadUnit (view_status s))

-- CALL of a name with its arguments, behind which nothing stands
abbrev pub called : Refer → List Token → Option Act
called (refer (named name g NoRange) no_parts) ts = ends_at (act.Call name g) ts
called (refer (named name g NoRange) (part p ps)) ts = None
called (refer (named name g (range lower upper)) ps) ts = None

-- what stands behind a comma, unless this word and `=` do
abbrev pub next_at : List ℕ → List Token → Option (List Token)
next_at word ts = comma_at ts >>= λ r. choose (word_at word r) (Some r) (λ _. None)
