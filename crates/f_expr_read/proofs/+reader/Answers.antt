use Rattle.std.proofs.Common.{length, true, false}
use Rattle.std.proofs.lemmas.Result.{err_from_is_err_and}
use Rattle.f_grammar.specs.Grammar.{no_links, no_parts, part, no_args, arg, no_more, more}
use Rattle.f_grammar.specs.Reading.{expr_at, primary_at, level_at, links_at, others_at, parts_at, mores_at}
use Rattle.f_expr_read.specs.Views.{tokens_of, view, view_link, view_argument, view_part, view_parameter, linked, item}
use Rattle.f_expr_read.proofs.Loops.{goes_on, fails, no_more_of, done}
use Rattle.f_expr_read.proofs.Turns.{others_next, others_fails, others_stops, others_zero, items_next, items_fails, items_stops, items_zero, parts_next, parts_fails, parts_stops, parts_zero, mores_next, mores_fails, mores_stops, mores_zero, links_next, links_fails, links_stops, links_zero}
use Rattle.f_expr_read.proofs.+reader.Goals as goal

pub reader::more_items-loop-preserved : goal.reader::more_items-loop-preserved
reader::more_items-loop-preserved t c =
    rw c.in_ok-push-in-Some.ensures.items (goes_on no_args item (others_at (expr_at c.args.depth) false) view c.loop.items.items (length c.args.tokens.now) c.loop.counter (tokens_of c.loop.rest.now) _ c.loop.invariant c.in_ok-value-in-Some.value (tokens_of c.in_ok-value-in-Some.after.now) c.loop-test.true
    (items_next (expr_at c.args.depth) (tokens_of c.loop.rest.now) (tokens_of c.in-Some.after.now) (tokens_of c.in_ok-value-in-Some.after.now) (view c.in_ok-value-in-Some.value) c.in-Some.ensures c.in_ok-value-in-Some.ensures))

pub reader::more_items-returns-in_err-value-in-Some : goal.reader::more_items-returns-in_err-value-in-Some
reader::more_items-returns-in_err-value-in-Some t c =
    let p = err_from_is_err_and c.from_residual-in_err-value-in-Some.result c.from_residual-in_err-value-in-Some.ensures.1 in
    rw (p.1, p.2) (fails no_args item (others_at (expr_at c.args.depth) false) view c.loop.items.items (length c.args.tokens.now) c.loop.counter (tokens_of c.loop.rest.now) _ c.loop.invariant c.in_err-value-in-Some.field-0.0 c.loop-test.true
    (items_fails (expr_at c.args.depth) (tokens_of c.loop.rest.now) (tokens_of c.in-Some.after.now) c.in_err-value-in-Some.field-0.0 c.in-Some.ensures c.in_err-value-in-Some.ensures))

pub reader::more_items-returns-in-None : goal.reader::more_items-returns-in-None
reader::more_items-returns-in-None t c = no_more_of no_args item (others_at (expr_at c.args.depth) false) view c.loop.items.items (length c.args.tokens.now) c.loop.counter (tokens_of c.loop.rest.now) _ c.loop.invariant c.loop-test.true (items_stops (expr_at c.args.depth) (tokens_of c.loop.rest.now) c.in-None.ensures)

pub reader::more_items-returns : goal.reader::more_items-returns
reader::more_items-returns t c = done no_args item (others_at (expr_at c.args.depth) false) view c.loop.items.items (length c.args.tokens.now) c.loop.counter (tokens_of c.loop.rest.now) _ c.loop.invariant c.loop-test.false (items_zero (expr_at c.args.depth) (tokens_of c.loop.rest.now))

pub reader::more_arguments-loop-preserved : goal.reader::more_arguments-loop-preserved
reader::more_arguments-loop-preserved t c =
    rw c.in_ok-push-in-Some.ensures.items (goes_on no_args arg (others_at (expr_at c.args.depth) true) view_argument c.loop.items.items (length c.args.tokens.now) c.loop.counter (tokens_of c.loop.rest.now) _ c.loop.invariant c.in_ok-value-in-Some.value (tokens_of c.in_ok-value-in-Some.after.now) c.loop-test.true
    (others_next (expr_at c.args.depth) true (tokens_of c.loop.rest.now) (tokens_of c.in-Some.after.now) (tokens_of c.in_ok-value-in-Some.after.now) (view_argument c.in_ok-value-in-Some.value) c.in-Some.ensures c.in_ok-value-in-Some.ensures))

pub reader::more_arguments-returns-in_err-value-in-Some : goal.reader::more_arguments-returns-in_err-value-in-Some
reader::more_arguments-returns-in_err-value-in-Some t c =
    let p = err_from_is_err_and c.from_residual-in_err-value-in-Some.result c.from_residual-in_err-value-in-Some.ensures.1 in
    rw (p.1, p.2) (fails no_args arg (others_at (expr_at c.args.depth) true) view_argument c.loop.items.items (length c.args.tokens.now) c.loop.counter (tokens_of c.loop.rest.now) _ c.loop.invariant c.in_err-value-in-Some.field-0.0 c.loop-test.true
    (others_fails (expr_at c.args.depth) true (tokens_of c.loop.rest.now) (tokens_of c.in-Some.after.now) c.in_err-value-in-Some.field-0.0 c.in-Some.ensures c.in_err-value-in-Some.ensures))

pub reader::more_arguments-returns-in-None : goal.reader::more_arguments-returns-in-None
reader::more_arguments-returns-in-None t c = no_more_of no_args arg (others_at (expr_at c.args.depth) true) view_argument c.loop.items.items (length c.args.tokens.now) c.loop.counter (tokens_of c.loop.rest.now) _ c.loop.invariant c.loop-test.true (others_stops (expr_at c.args.depth) true (tokens_of c.loop.rest.now) c.in-None.ensures)

pub reader::more_arguments-returns : goal.reader::more_arguments-returns
reader::more_arguments-returns t c = done no_args arg (others_at (expr_at c.args.depth) true) view_argument c.loop.items.items (length c.args.tokens.now) c.loop.counter (tokens_of c.loop.rest.now) _ c.loop.invariant c.loop-test.false (others_zero (expr_at c.args.depth) true (tokens_of c.loop.rest.now))

pub reader::more_parts-loop-preserved : goal.reader::more_parts-loop-preserved
reader::more_parts-loop-preserved t c =
    rw c.in_ok-push-in-Some.ensures.items (goes_on no_parts part (parts_at (expr_at c.args.depth)) view_part c.loop.items.items (length c.args.tokens.now) c.loop.counter (tokens_of c.loop.rest.now) _ c.loop.invariant c.in_ok-value-in-Some.value (tokens_of c.in_ok-value-in-Some.after.now) c.loop-test.true
    (parts_next (expr_at c.args.depth) (tokens_of c.loop.rest.now) (tokens_of c.in-Some.after.now) (tokens_of c.in_ok-value-in-Some.after.now) (view_part c.in_ok-value-in-Some.value) c.in-Some.ensures c.in_ok-value-in-Some.ensures))

pub reader::more_parts-returns-in_err-value-in-Some : goal.reader::more_parts-returns-in_err-value-in-Some
reader::more_parts-returns-in_err-value-in-Some t c =
    let p = err_from_is_err_and c.from_residual.result c.from_residual.ensures.1 in
    rw (p.1, p.2) (fails no_parts part (parts_at (expr_at c.args.depth)) view_part c.loop.items.items (length c.args.tokens.now) c.loop.counter (tokens_of c.loop.rest.now) _ c.loop.invariant c.in_err-value-in-Some.field-0.0 c.loop-test.true
    (parts_fails (expr_at c.args.depth) (tokens_of c.loop.rest.now) (tokens_of c.in-Some.after.now) c.in_err-value-in-Some.field-0.0 c.in-Some.ensures c.in_err-value-in-Some.ensures))

pub reader::more_parts-returns-in-None : goal.reader::more_parts-returns-in-None
reader::more_parts-returns-in-None t c = no_more_of no_parts part (parts_at (expr_at c.args.depth)) view_part c.loop.items.items (length c.args.tokens.now) c.loop.counter (tokens_of c.loop.rest.now) _ c.loop.invariant c.loop-test.true (parts_stops (expr_at c.args.depth) (tokens_of c.loop.rest.now) c.in-None.ensures)

pub reader::more_parts-returns : goal.reader::more_parts-returns
reader::more_parts-returns t c = done no_parts part (parts_at (expr_at c.args.depth)) view_part c.loop.items.items (length c.args.tokens.now) c.loop.counter (tokens_of c.loop.rest.now) _ c.loop.invariant c.loop-test.false (parts_zero (expr_at c.args.depth) (tokens_of c.loop.rest.now))

pub types::more_parameters-loop-preserved : goal.types::more_parameters-loop-preserved
types::more_parameters-loop-preserved t c =
    rw c.in_ok-push-in-Some.ensures.items (goes_on no_more more (mores_at (expr_at c.args.depth)) view_parameter c.loop.items.items (length c.args.tokens.now) c.loop.counter (tokens_of c.loop.rest.now) _ c.loop.invariant c.in_ok-value-in-Some.value (tokens_of c.in_ok-value-in-Some.after.now) c.loop-test.true
    (mores_next (expr_at c.args.depth) (tokens_of c.loop.rest.now) (tokens_of c.in-Some.after.now) (tokens_of c.in_ok-value-in-Some.after.now) (view_parameter c.in_ok-value-in-Some.value) c.in-Some.ensures c.in_ok-value-in-Some.ensures))

pub types::more_parameters-returns-in_err-value-in-Some : goal.types::more_parameters-returns-in_err-value-in-Some
types::more_parameters-returns-in_err-value-in-Some t c =
    let p = err_from_is_err_and c.from_residual-in_err-value-in-Some.result c.from_residual-in_err-value-in-Some.ensures.1 in
    rw (p.1, p.2) (fails no_more more (mores_at (expr_at c.args.depth)) view_parameter c.loop.items.items (length c.args.tokens.now) c.loop.counter (tokens_of c.loop.rest.now) _ c.loop.invariant c.in_err-value-in-Some.field-0.0 c.loop-test.true
    (mores_fails (expr_at c.args.depth) (tokens_of c.loop.rest.now) (tokens_of c.in-Some.after.now) c.in_err-value-in-Some.field-0.0 c.in-Some.ensures c.in_err-value-in-Some.ensures))

pub types::more_parameters-returns-in-None : goal.types::more_parameters-returns-in-None
types::more_parameters-returns-in-None t c = no_more_of no_more more (mores_at (expr_at c.args.depth)) view_parameter c.loop.items.items (length c.args.tokens.now) c.loop.counter (tokens_of c.loop.rest.now) _ c.loop.invariant c.loop-test.true (mores_stops (expr_at c.args.depth) (tokens_of c.loop.rest.now) c.in-None.ensures)

pub types::more_parameters-returns : goal.types::more_parameters-returns
types::more_parameters-returns t c = done no_more more (mores_at (expr_at c.args.depth)) view_parameter c.loop.items.items (length c.args.tokens.now) c.loop.counter (tokens_of c.loop.rest.now) _ c.loop.invariant c.loop-test.false (mores_zero (expr_at c.args.depth) (tokens_of c.loop.rest.now))

pub reader::links-loop-preserved : goal.reader::links-loop-preserved
reader::links-loop-preserved t c =
    rw c.in_ok-push-in-Some.ensures.items (goes_on no_links linked (links_at (level_at (primary_at (expr_at c.args.depth)) c.args.height) c.args.height) view_link c.loop.links.items c.if-height-eq4.most c.loop.counter (tokens_of c.loop.rest.now) _ c.loop.invariant c.link-one.result (tokens_of c.in_ok-operand-in-Some.after.now) c.loop-test.true
    (links_next (level_at (primary_at (expr_at c.args.depth)) c.args.height) c.args.height (tokens_of c.loop.rest.now) (tokens_of c.in-Some.after.now) (tokens_of c.in_ok-operand-in-Some.after.now) c.in-Some.operator (view c.in_ok-operand-in-Some.operand) (view_link c.link-one.result) c.link-one.ensures c.in-Some.ensures c.in_ok-operand-in-Some.ensures))

pub reader::links-returns-in_err-operand-in-Some : goal.reader::links-returns-in_err-operand-in-Some
reader::links-returns-in_err-operand-in-Some t c =
    let p = err_from_is_err_and c.from_residual.result c.from_residual.ensures.1 in
    rw (p.1, p.2) (fails no_links linked (links_at (level_at (primary_at (expr_at c.args.depth)) c.args.height) c.args.height) view_link c.loop.links.items c.if-height-eq4.most c.loop.counter (tokens_of c.loop.rest.now) _ c.loop.invariant c.in_err-operand-in-Some.field-0.0 c.loop-test.true
    (links_fails (level_at (primary_at (expr_at c.args.depth)) c.args.height) c.args.height (tokens_of c.loop.rest.now) (tokens_of c.in-Some.after.now) c.in-Some.operator c.in_err-operand-in-Some.field-0.0 c.in-Some.ensures c.in_err-operand-in-Some.ensures))

pub reader::links-returns-in-None : goal.reader::links-returns-in-None
reader::links-returns-in-None t c = no_more_of no_links linked (links_at (level_at (primary_at (expr_at c.args.depth)) c.args.height) c.args.height) view_link c.loop.links.items c.if-height-eq4.most c.loop.counter (tokens_of c.loop.rest.now) _ c.loop.invariant c.loop-test.true (links_stops (level_at (primary_at (expr_at c.args.depth)) c.args.height) c.args.height (tokens_of c.loop.rest.now) c.in-None.ensures)

pub reader::links-returns : goal.reader::links-returns
reader::links-returns t c = done no_links linked (links_at (level_at (primary_at (expr_at c.args.depth)) c.args.height) c.args.height) view_link c.loop.links.items c.if-height-eq4.most c.loop.counter (tokens_of c.loop.rest.now) _ c.loop.invariant c.loop-test.false (links_zero (level_at (primary_at (expr_at c.args.depth)) c.args.height) c.args.height (tokens_of c.loop.rest.now))
