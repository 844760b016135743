use Rattle.std.proofs.Common.{length}
use Rattle.std.proofs.lemmas.Result.{err_from_is_err_and}
use Rattle.f_grammar.specs.Actions.{no_exprs, expr}
use Rattle.f_grammar.specs.ActionReading.{exprs_at}
use Rattle.f_expr_read.specs.Views.{tokens_of, view}
use Rattle.f_expr_read.proofs.Loops.{goes_on, fails, no_more_of, done}
use Rattle.f_action_read.proofs.ActionTurns.{exprs_next, exprs_fails, exprs_stops, exprs_zero}
use Rattle.f_action_read.proofs.list.expressions.Goals as goal

pub loop-preserved : goal.loop-preserved
loop-preserved c =
    rw c.in_ok-push-in-Some.ensures.items (goes_on no_exprs expr (exprs_at 65) view c.loop.items.items (length c.args.tokens.now) c.loop.counter (tokens_of c.loop.rest.now) _ c.loop.invariant c.in_ok-value-in-Some.value (tokens_of c.in_ok-value-in-Some.after.now) c.loop-test.true
    (exprs_next 65 (tokens_of c.loop.rest.now) (tokens_of c.in-Some.after.now) (tokens_of c.in_ok-value-in-Some.after.now) (view c.in_ok-value-in-Some.value) c.in-Some.ensures c.in_ok-value-in-Some.ensures.exact))

pub returns-in_err-value-in-Some : goal.returns-in_err-value-in-Some
returns-in_err-value-in-Some c =
    let p = err_from_is_err_and c.from_residual.result c.from_residual.ensures.1 in
    rw (p.1, p.2) (fails no_exprs expr (exprs_at 65) view c.loop.items.items (length c.args.tokens.now) c.loop.counter (tokens_of c.loop.rest.now) _ c.loop.invariant c.in_err-value-in-Some.field-0.0 c.loop-test.true
    (exprs_fails 65 (tokens_of c.loop.rest.now) (tokens_of c.in-Some.after.now) c.in_err-value-in-Some.field-0.0 c.in-Some.ensures c.in_err-value-in-Some.ensures.exact))

pub returns-in-None : goal.returns-in-None
returns-in-None c = no_more_of no_exprs expr (exprs_at 65) view c.loop.items.items (length c.args.tokens.now) c.loop.counter (tokens_of c.loop.rest.now) _ c.loop.invariant c.loop-test.true (exprs_stops 65 (tokens_of c.loop.rest.now) c.in-None.ensures)

pub returns : goal.returns
returns c = done no_exprs expr (exprs_at 65) view c.loop.items.items (length c.args.tokens.now) c.loop.counter (tokens_of c.loop.rest.now) _ c.loop.invariant c.loop-test.false (exprs_zero 65 (tokens_of c.loop.rest.now))
