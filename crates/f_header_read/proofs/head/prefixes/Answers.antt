use Rattle.std.proofs.Common.{length}
use Rattle.std.proofs.lemmas.Result.{err_from_is_err_and}
use Rattle.f_expr_read.specs.Views.{tokens_of}
use Rattle.f_declared.specs.Views.{view_prefix, is_function}
use Rattle.f_header_read.proofs.Prefixes.{prefixes_go_on, prefixes_fail, prefixes_end, no_unit_word}
use Rattle.f_header_read.proofs.head.prefixes.Goals as goal

pub loop-preserved : goal.loop-preserved
loop-preserved c =
    rw c.in_ok-push-in-None.ensures.ok (prefixes_go_on 65 view_prefix c.loop.all (length c.args.tokens.now) c.loop.counter (tokens_of c.loop.rest.now) _ c.loop.invariant
    c.in_ok-item-in-None.item (tokens_of c.in_ok-item-in-None.after.now) c.loop-test.true c.in-None.ensures c.in_ok-item-in-None.ensures)

pub returns-in_err-item-in-None : goal.returns-in_err-item-in-None
returns-in_err-item-in-None c =
    let p = err_from_is_err_and c.from_residual.result c.from_residual.ensures.1 in
    rw (p.1, p.2) (prefixes_fail 65 view_prefix c.loop.all (length c.args.tokens.now) c.loop.counter (tokens_of c.loop.rest.now) _ c.loop.invariant
    c.in_err-item-in-None.field-0.0 c.loop-test.true c.in-None.ensures c.in_err-item-in-None.ensures)

pub returns-in-Some : goal.returns-in-Some
returns-in-Some c = prefixes_end 65 view_prefix c.loop.all (length c.args.tokens.now) c.loop.counter (tokens_of c.loop.rest.now) _ c.loop.invariant (is_function c.in-Some.kind) (tokens_of c.in-Some.after.now) c.loop-test.true c.in-Some.ensures

pub returns : goal.returns
returns c = no_unit_word 65 view_prefix c.loop.all (length c.args.tokens.now) c.loop.counter (tokens_of c.loop.rest.now) _ c.loop.invariant c.loop-test.false
