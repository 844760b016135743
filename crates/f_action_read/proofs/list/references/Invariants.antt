use Rattle.std.proofs.Common.{◌≡◌, ◌-◌, length, map}
use Rattle.f_grammar.specs.Actions.{ref}
use Rattle.f_grammar.specs.ActionReading.{refs_at}
use Rattle.f_expr_read.specs.Gives.{behind}
use Rattle.f_expr_read.specs.Views.{tokens_of, view_reference}
use Rattle.f_action_read.proofs.list.references.Given as goal

abbrev pub invariant-loop : goal.invariant-loop
invariant-loop l = behind ref (map view_reference l.items.items) (refs_at 65 l.fn.word (l.end - l.counter) (tokens_of l.rest)) ≡ refs_at 65 l.fn.word (length l.tokens) (tokens_of l.tokens)
