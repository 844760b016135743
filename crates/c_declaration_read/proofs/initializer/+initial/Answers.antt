use Rattle.std.proofs.Common.{length, map, refl}
use Rattle.std.proofs.lemmas.Result.{err_from_is_err_and}
use Rattle.c_unit_grammar.specs.Statements.{no_initials, initial, after_initial, after_initials}
use Rattle.c_unit_grammar.specs.Reading.{initials_at, initial_in}
use Rattle.c_expression_read.proofs.Loops.{begun, fails, no_more_of, done, goes_on, declares}
use Rattle.c_declaration_read.specs.Views.{view_initializer}
use Rattle.c_declaration_read.proofs.Turns.{initials_next, initials_fails, initials_stops, initials_zero}
use Rattle.c_declaration_read.proofs.initializer.+initial.Goals as goal

pub others-initials-init : goal.others-initials-init
others-initials-init t c = rw c.new-others.ensures.items (record { reads = begun initial (initials_at (initial_in c.args.depth)) (length c.args.tokens.now) c.args.scope.now c.args.tokens.now; scoped = refl })

pub others-initials-preserved : goal.others-initials-preserved
others-initials-preserved t c =
    rw c.in_ok-push-in-Some.ensures.items (record {
      reads = goes_on no_initials initial (initials_at (initial_in c.args.depth)) view_initializer c.initials.others.items (length c.args.tokens.now) c.initials.counter c.initials.scope c.initials.rest.now _ c.initials.invariant.reads c.in_ok-one-in-Some.one _ c.in_ok-one-in-Some.after.now c.initials-test.true (initials_next (initial_in c.args.depth) c.initials.scope _ c.initials.rest.now c.in-Some.behind.now c.in_ok-one-in-Some.after.now (view_initializer c.in_ok-one-in-Some.one) c.in-Some.ensures c.in_ok-one-in-Some.ensures.read c.in_ok-one-in-Some.ensures.scope);
      scoped = declares no_initials initial after_initials after_initial (λ s. refl) (λ e l s. refl) view_initializer c.initials.others.items c.in_ok-one-in-Some.one c.args.scope.now c.initials.scope _ c.initials.invariant.scoped c.in_ok-one-in-Some.ensures.scope;
    })

pub others-returns-in_err-one-in-Some-clause-read : goal.others-returns-in_err-one-in-Some-clause-read
others-returns-in_err-one-in-Some-clause-read t c =
    let p = err_from_is_err_and c.from_residual.result c.from_residual.ensures.1 in
    rw (p.1, p.2) (fails no_initials initial (initials_at (initial_in c.args.depth)) (map view_initializer c.initials.others.items) (length c.args.tokens.now) c.initials.counter c.initials.scope c.initials.rest.now _ c.initials.invariant.reads c.in_err-one-in-Some.field-0.0 c.initials-test.true (initials_fails (initial_in c.args.depth) c.initials.scope c.initials.rest.now c.in-Some.behind.now c.in_err-one-in-Some.field-0.0 c.in-Some.ensures c.in_err-one-in-Some.ensures.read))

pub others-returns-in-None-clause-read : goal.others-returns-in-None-clause-read
others-returns-in-None-clause-read t c = no_more_of no_initials initial (initials_at (initial_in c.args.depth)) (map view_initializer c.initials.others.items) (length c.args.tokens.now) c.initials.counter c.initials.scope c.initials.rest.now _ c.initials.invariant.reads c.initials-test.true (initials_stops (initial_in c.args.depth) c.initials.scope c.initials.rest.now c.in-None.ensures)

pub others-returns-in-None-clause-scope : goal.others-returns-in-None-clause-scope
others-returns-in-None-clause-scope t c = c.initials.invariant.scoped

pub others-returns-clause-read : goal.others-returns-clause-read
others-returns-clause-read t c = done no_initials initial (initials_at (initial_in c.args.depth)) (map view_initializer c.initials.others.items) (length c.args.tokens.now) c.initials.counter c.initials.scope c.initials.rest.now _ c.initials.invariant.reads c.initials-test.false (initials_zero (initial_in c.args.depth) c.initials.scope c.initials.rest.now)

pub others-returns-clause-scope : goal.others-returns-clause-scope
others-returns-clause-scope t c = c.initials.invariant.scoped
