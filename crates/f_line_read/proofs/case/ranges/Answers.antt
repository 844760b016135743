use Rattle.std.proofs.Common.{length}
use Rattle.std.proofs.lemmas.Result.{err_from_is_err_and}
use Rattle.f_line_grammar.specs.Lines.{no_spans, span}
use Rattle.f_line_grammar.specs.LineReading.{spans_at}
use Rattle.f_expr_read.specs.Views.{tokens_of}
use Rattle.f_line_read.specs.Lines.{view_range}
use Rattle.f_expr_read.proofs.Loops.{goes_on, fails, no_more_of, done}
use Rattle.f_line_read.proofs.LineTurns.{spans_next, spans_fails, spans_stops, spans_zero}
use Rattle.f_line_read.proofs.case.ranges.Goals as goal

pub loop-preserved : goal.loop-preserved
loop-preserved c =
    rw c.in_ok-push-in-Some.ensures.items (goes_on no_spans span (spans_at 65) view_range c.loop.items.items (length c.args.tokens.now) c.loop.counter (tokens_of c.loop.rest.now) _ c.loop.invariant c.in_ok-value-in-Some.value (tokens_of c.in_ok-value-in-Some.after.now) c.loop-test.true
    (spans_next 65 (tokens_of c.loop.rest.now) (tokens_of c.in-Some.after.now) (tokens_of c.in_ok-value-in-Some.after.now) (view_range c.in_ok-value-in-Some.value) c.in-Some.ensures c.in_ok-value-in-Some.ensures))

pub returns-in_err-value-in-Some : goal.returns-in_err-value-in-Some
returns-in_err-value-in-Some c =
    let p = err_from_is_err_and c.from_residual.result c.from_residual.ensures.1 in
    rw (p.1, p.2) (fails no_spans span (spans_at 65) view_range c.loop.items.items (length c.args.tokens.now) c.loop.counter (tokens_of c.loop.rest.now) _ c.loop.invariant c.in_err-value-in-Some.field-0.0 c.loop-test.true
    (spans_fails 65 (tokens_of c.loop.rest.now) (tokens_of c.in-Some.after.now) c.in_err-value-in-Some.field-0.0 c.in-Some.ensures c.in_err-value-in-Some.ensures))

pub returns-in-None : goal.returns-in-None
returns-in-None c = no_more_of no_spans span (spans_at 65) view_range c.loop.items.items (length c.args.tokens.now) c.loop.counter (tokens_of c.loop.rest.now) _ c.loop.invariant c.loop-test.true (spans_stops 65 (tokens_of c.loop.rest.now) c.in-None.ensures)

pub returns : goal.returns
returns c = done no_spans span (spans_at 65) view_range c.loop.items.items (length c.args.tokens.now) c.loop.counter (tokens_of c.loop.rest.now) _ c.loop.invariant c.loop-test.false (spans_zero 65 (tokens_of c.loop.rest.now))
