use Rattle.std.proofs.Common.{Option, sym, subst}
use Rattle.std.specs.Prelude.{MatchOption}
use Rattle.c_condition.specs.declared.number.Number.{Number}
use Rattle.c_condition.specs.Grammar.{Controls, ControlsNothing}
use Rattle.c_condition.proofs.Whole.{no_expression, outcome_read}
use Rattle.c_condition.proofs.condition.condition_value.Goals as goal

pub returns-in-None : goal.returns-in-None
returns-in-None c = no_expression c.args.tokens.now (sym c.in-None.ensures)

pub returns-in-Some : goal.returns-in-Some
returns-in-Some c = let P : Option Number → Type 0 = λ o. MatchOption o (ControlsNothing c.args.tokens.now) (Controls c.args.tokens.now) in
    subst P (sym c.value.ensures) (outcome_read c.args.tokens.now c.in-Some.outcome (sym c.in-Some.ensures))
