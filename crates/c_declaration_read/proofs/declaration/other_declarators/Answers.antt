use Rattle.std.proofs.Common.{List, [], length, map, Ok, refl, ap, ◌∙◌}
use Rattle.std.proofs.lemmas.Result.{err_from_is_err_and}
use Rattle.c_unit_grammar.specs.Statements.{Init, after_init, after_inits}
use Rattle.c_unit_grammar.specs.Reading.{inits_at}
use Rattle.c_expression_read.proofs.Loops.{begun, fails, no_more_of, done, goes_on, declares}
use Rattle.c_declaration_read.specs.Views.{view_init}
use Rattle.c_declaration_read.proofs.Turns.{one_more, all_of, inits_next, inits_fails, inits_stops, inits_zero}
use Rattle.c_declaration_read.proofs.declaration.other_declarators.Goals as goal

pub declarators-init : goal.declarators-init
declarators-init c = rw c.new-others.ensures.items (record { reads = begun one_more (inits_at c.args.depth c.args.is_typedef) (length c.args.tokens.now) c.args.scope.now c.args.tokens.now; scoped = refl })

pub declarators-preserved : goal.declarators-preserved
declarators-preserved c =
    rw c.in_ok-push-in-Some.ensures.items (record {
      reads = goes_on [] one_more (inits_at c.args.depth c.args.is_typedef) view_init c.declarators.others.items (length c.args.tokens.now) c.declarators.counter c.declarators.scope c.declarators.rest.now _ c.declarators.invariant.reads c.in_ok-one-in-Some.one _ c.in_ok-one-in-Some.after.now c.declarators-test.true (inits_next c.args.depth c.args.is_typedef c.declarators.scope _ c.declarators.rest.now c.in-Some.behind.now c.in_ok-one-in-Some.after.now (view_init c.in_ok-one-in-Some.one) c.in-Some.ensures c.in_ok-one-in-Some.ensures.read c.in_ok-one-in-Some.ensures.scope);
      scoped = declares [] one_more (after_inits c.args.is_typedef) (after_init c.args.is_typedef) (λ s. refl) (λ e l s. refl) view_init c.declarators.others.items c.in_ok-one-in-Some.one c.args.scope.now c.declarators.scope _ c.declarators.invariant.scoped c.in_ok-one-in-Some.ensures.scope;
    })

pub returns-in_err-one-in-Some-clause-read : goal.returns-in_err-one-in-Some-clause-read
returns-in_err-one-in-Some-clause-read c =
    let p = err_from_is_err_and c.from_residual.result c.from_residual.ensures.1 in
    rw (p.1, p.2) (fails [] one_more (inits_at c.args.depth c.args.is_typedef) (map view_init c.declarators.others.items) (length c.args.tokens.now) c.declarators.counter c.declarators.scope c.declarators.rest.now _ c.declarators.invariant.reads c.in_err-one-in-Some.field-0.0 c.declarators-test.true (inits_fails c.args.depth c.args.is_typedef c.declarators.scope c.declarators.rest.now c.in-Some.behind.now c.in_err-one-in-Some.field-0.0 c.in-Some.ensures c.in_err-one-in-Some.ensures.read))

pub returns-in-None-clause-read : goal.returns-in-None-clause-read
returns-in-None-clause-read c =
    no_more_of [] one_more (inits_at c.args.depth c.args.is_typedef) (map view_init c.declarators.others.items) (length c.args.tokens.now) c.declarators.counter c.declarators.scope c.declarators.rest.now _ c.declarators.invariant.reads c.declarators-test.true (inits_stops c.args.depth c.args.is_typedef c.declarators.scope c.declarators.rest.now c.in-None.ensures)
    ∙ ap (λ (is : List Init). Ok (is, c.declarators.rest.now)) (all_of (map view_init c.declarators.others.items))

pub returns-in-None-clause-scope : goal.returns-in-None-clause-scope
returns-in-None-clause-scope c = c.declarators.invariant.scoped ∙ ap (λ (is : List Init). after_inits c.args.is_typedef is c.args.scope.now) (all_of (map view_init c.declarators.others.items))

pub returns-clause-read : goal.returns-clause-read
returns-clause-read c =
    done [] one_more (inits_at c.args.depth c.args.is_typedef) (map view_init c.declarators.others.items) (length c.args.tokens.now) c.declarators.counter c.declarators.scope c.declarators.rest.now _ c.declarators.invariant.reads c.declarators-test.false (inits_zero c.args.depth c.args.is_typedef c.declarators.scope c.declarators.rest.now)
    ∙ ap (λ (is : List Init). Ok (is, c.declarators.rest.now)) (all_of (map view_init c.declarators.others.items))

pub returns-clause-scope : goal.returns-clause-scope
returns-clause-scope c = c.declarators.invariant.scoped ∙ ap (λ (is : List Init). after_inits c.args.is_typedef is c.args.scope.now) (all_of (map view_init c.declarators.others.items))
