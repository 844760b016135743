use Rattle.std.proofs.Common.{suc, length, map, refl, sym, ◌∙◌}
use Rattle.std.proofs.lemmas.Result.{err_from_is_err_and}
use Rattle.c_unit_grammar.specs.Statements.{nothing, after_items}
use Rattle.c_unit_grammar.specs.Reading.{items_at, stmt_in}
use Rattle.c_expression_read.proofs.Loops.{begun, fails, no_more_of, done, goes_on, declares}
use Rattle.c_statement_read.specs.Views.{in_front, view_item, after_item}
use Rattle.c_statement_read.proofs.Turns.{items_next, items_fails, items_stops, items_zero, after_front}
use Rattle.c_statement_read.proofs.statement.+statement.Goals as goal

pub items-items-init : goal.items-items-init
items-items-init t c = rw c.new-items.ensures.items (record { reads = begun in_front (items_at c.args.depth (stmt_in (suc c.args.depth))) (length c.args.tokens.now) c.args.scope.now c.args.tokens.now; scoped = refl })

pub items-items-preserved : goal.items-items-preserved
items-items-preserved t c =
    rw c.in_ok-push.ensures.items (record {
      reads = goes_on nothing in_front (items_at c.args.depth (stmt_in (suc c.args.depth))) view_item c.items.items.items (length c.args.tokens.now) c.items.counter c.items.scope c.items.rest.now _ c.items.invariant.reads c.in_ok-one.one _ c.in_ok-one.after.now c.items-test.true (items_next c.args.depth (stmt_in (suc c.args.depth)) c.items.scope _ c.items.rest.now c.in_ok-one.after.now (view_item c.in_ok-one.one) (sym c.ends_braces.ensures ∙ c.if-ends_braces.false) c.in_ok-one.ensures.read c.in_ok-one.ensures.scope);
      scoped = declares nothing in_front after_items after_item (λ s. refl) after_front view_item c.items.items.items c.in_ok-one.one c.args.scope.now c.items.scope _ c.items.invariant.scoped c.in_ok-one.ensures.scope;
    })

pub items-returns-in_err-one-clause-read : goal.items-returns-in_err-one-clause-read
items-returns-in_err-one-clause-read t c =
    let p = err_from_is_err_and c.from_residual.result c.from_residual.ensures.1 in
    rw (p.1, p.2) (fails nothing in_front (items_at c.args.depth (stmt_in (suc c.args.depth))) (map view_item c.items.items.items) (length c.args.tokens.now) c.items.counter c.items.scope c.items.rest.now _ c.items.invariant.reads c.in_err-one.field-0.0 c.items-test.true (items_fails c.args.depth (stmt_in (suc c.args.depth)) c.items.scope c.items.rest.now c.in_err-one.field-0.0 (sym c.ends_braces.ensures ∙ c.if-ends_braces.false) c.in_err-one.ensures.read))

pub items-returns-then-ends_braces-clause-read : goal.items-returns-then-ends_braces-clause-read
items-returns-then-ends_braces-clause-read t c = no_more_of nothing in_front (items_at c.args.depth (stmt_in (suc c.args.depth))) (map view_item c.items.items.items) (length c.args.tokens.now) c.items.counter c.items.scope c.items.rest.now _ c.items.invariant.reads c.items-test.true (items_stops c.args.depth (stmt_in (suc c.args.depth)) c.items.scope c.items.rest.now (sym c.ends_braces.ensures ∙ c.if-ends_braces.true))

pub items-returns-then-ends_braces-clause-scope : goal.items-returns-then-ends_braces-clause-scope
items-returns-then-ends_braces-clause-scope t c = c.items.invariant.scoped

pub items-returns-clause-read : goal.items-returns-clause-read
items-returns-clause-read t c = done nothing in_front (items_at c.args.depth (stmt_in (suc c.args.depth))) (map view_item c.items.items.items) (length c.args.tokens.now) c.items.counter c.items.scope c.items.rest.now _ c.items.invariant.reads c.items-test.false (items_zero c.args.depth (stmt_in (suc c.args.depth)) c.items.scope c.items.rest.now)

pub items-returns-clause-scope : goal.items-returns-clause-scope
items-returns-clause-scope t c = c.items.invariant.scoped

pub statement-returns-in-Some-Break-default-clause-scope : goal.statement-returns-in-Some-Break-default-clause-scope
statement-returns-in-Some-Break-default-clause-scope t c = c.break_statement.ensures.scope c.args.scope.now

pub statement-returns-in-Some-Continue-default-clause-scope : goal.statement-returns-in-Some-Continue-default-clause-scope
statement-returns-in-Some-Continue-default-clause-scope t c = c.continue_statement.ensures.scope c.args.scope.now
