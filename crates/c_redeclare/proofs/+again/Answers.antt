use Rattle.std.proofs.Common.{rules, ◌≡◌, map, sym, ap, ◌∙◌}
use Rattle.std.proofs.lemmas.Grind.{common_steps}
use Rattle.c_tree.specs.declared.expression.Core.TheFolds.{the_lemmas}
use Rattle.c_grammar.specs.Grammar.{Expr, after}
use Rattle.c_expression_read.specs.Views.{view, view_choice, to_the_right}
use Rattle.c_redeclare.proofs.Turns.{after_call, after_commas, after_right, after_shifted}
use Rattle.c_redeclare.proofs.+again.Goals as goal

pub expression::arguments-returns : goal.expression::arguments-returns
expression::arguments-returns t c = c.in_ok-expressions.ensures ∙ after_call (map view c.args.all.now) c.args.scope.now

pub expression::commas-returns : goal.expression::commas-returns
expression::commas-returns t c = c.in_ok-expressions.ensures ∙ after_commas (map view c.args.all.now) c.args.scope.now

pub expression::expression-returns-in_ok-expression-in-Conditional : goal.expression::expression-returns-in_ok-expression-in-Conditional
expression::expression-returns-in_ok-expression-in-Conditional t c =
    let tree : view c.args.e.now ≡ to_the_right 10 (map view_choice c.as_slice-in-Conditional.result.now) (view c.get-in-Conditional.result.now) = search (rules, the_lemmas) in
    c.in_ok-expression-in-Conditional.ensures
    ∙ ap (after (view c.get-in-Conditional.result.now)) c.in_ok-choices-in-Conditional.ensures
    ∙ after_right 10 (map view_choice c.as_slice-in-Conditional.result.now) (view c.get-in-Conditional.result.now) c.args.scope.now
    ∙ ap (λ (x : Expr). after x c.args.scope.now) (sym tree)

pub expression::expression-returns-in_ok-expression-in-Assignment : goal.expression::expression-returns-in_ok-expression-in-Assignment
expression::expression-returns-in_ok-expression-in-Assignment t c = search (rules, the_lemmas, common_steps, after_shifted)
