use Rattle.std.proofs.Common.{length, sym}
use Rattle.std.proofs.lemmas.Result.{err_from_is_err_and}
use Rattle.f_expr_read.specs.Views.{tokens_of}
use Rattle.f_declared.specs.Views.{view_suffix}
use Rattle.f_header_read.proofs.Suffixes.{suffixes_go_on, suffixes_fail, suffixes_end, no_end}
use Rattle.f_header_read.proofs.suffix.suffixes.Goals as goal

pub loop-preserved : goal.loop-preserved
loop-preserved c =
    rw c.in_ok-push.ensures.ok (suffixes_go_on view_suffix c.loop.all (length c.args.tokens.now) c.loop.counter (tokens_of c.loop.rest.now) _ c.loop.invariant
    c.in_ok-item.item (tokens_of c.in_ok-item.after.now) c.loop-test.true c.in_ok-item.ensures)

pub returns-then-is_ended : goal.returns-then-is_ended
returns-then-is_ended c = suffixes_end view_suffix c.loop.all (length c.args.tokens.now) c.loop.counter (tokens_of c.loop.rest.now) _ c.loop.invariant (sym c.if-is_ended.ensures)

pub returns-in_err-item : goal.returns-in_err-item
returns-in_err-item c =
    let p = err_from_is_err_and c.from_residual.result c.from_residual.ensures.1 in
    rw (p.1, p.2) (suffixes_fail view_suffix c.loop.all (length c.args.tokens.now) c.loop.counter (tokens_of c.loop.rest.now) _ c.loop.invariant c.in_err-item.field-0.0 c.loop-test.true (sym c.if-is_ended.ensures) c.in_err-item.ensures)

pub returns-then-is_ended-2 : goal.returns-then-is_ended-2
returns-then-is_ended-2 c = suffixes_end view_suffix c.loop.all (length c.args.tokens.now) c.loop.counter (tokens_of c.loop.rest.now) _ c.loop.invariant (sym c.if-is_ended-2.ensures)

pub returns-else-is_ended-2 : goal.returns-else-is_ended-2
returns-else-is_ended-2 c = no_end view_suffix c.loop.all (length c.args.tokens.now) c.loop.counter (tokens_of c.loop.rest.now) _ c.loop.invariant c.loop-test.false (sym c.if-is_ended-2.ensures)
