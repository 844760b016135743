use Rattle.std.proofs.Common.{length}
use Rattle.std.proofs.lemmas.Result.{err_from_is_err_and}
use Rattle.f_expr_read.specs.Views.{tokens_of}
use Rattle.f_specifier_read.proofs.Lists.{list_goes_on, list_fails, list_ends, list_is_done}
use Rattle.f_specifier_read.proofs.list.more.Goals as goal

pub loop-preserved : goal.loop-preserved
loop-preserved g c =
    rw c.in_ok-push-in-Some.ensures.ok (list_goes_on g.T.Parse.one g.T.Parse.seen c.loop.all (length c.args.tokens.now) c.loop.counter (tokens_of c.loop.rest.now) _ c.loop.invariant
    c.in_ok-item-in-Some.item (tokens_of c.in-Some.after.now) (tokens_of c.in_ok-item-in-Some.after.now) c.loop-test.true c.in-Some.ensures c.in_ok-item-in-Some.ensures)

pub returns-in_err-item-in-Some : goal.returns-in_err-item-in-Some
returns-in_err-item-in-Some g c =
    let p = err_from_is_err_and c.from_residual.result c.from_residual.ensures.1 in
    rw (p.1, p.2) (list_fails g.T.Parse.one g.T.Parse.seen c.loop.all (length c.args.tokens.now) c.loop.counter (tokens_of c.loop.rest.now) _ c.loop.invariant
    c.in_err-item-in-Some.field-0.0 (tokens_of c.in-Some.after.now) c.loop-test.true c.in-Some.ensures c.in_err-item-in-Some.ensures)

pub returns-in-None : goal.returns-in-None
returns-in-None g c = list_ends g.T.Parse.one g.T.Parse.seen c.loop.all (length c.args.tokens.now) c.loop.counter (tokens_of c.loop.rest.now) _ c.loop.invariant c.loop-test.true c.in-None.ensures

pub returns : goal.returns
returns g c = list_is_done g.T.Parse.one g.T.Parse.seen c.loop.all (length c.args.tokens.now) c.loop.counter (tokens_of c.loop.rest.now) _ c.loop.invariant c.loop-test.false
