use Rattle.std.proofs.Common.{◌≡◌, ◌-◌, length, map}
use Rattle.f_grammar.specs.Actions.{expr}
use Rattle.f_grammar.specs.ActionReading.{exprs_at}
use Rattle.f_expr_read.specs.Gives.{behind}
use Rattle.f_expr_read.specs.Views.{tokens_of, view}
use Rattle.f_action_read.proofs.list.expressions.Given as goal

abbrev pub invariant-loop : goal.invariant-loop
invariant-loop l = behind expr (map view l.items.items) (exprs_at 65 (l.end - l.counter) (tokens_of l.rest)) ≡ exprs_at 65 (length l.tokens) (tokens_of l.tokens)
