use Rattle.std.proofs.Common.{◌≡◌, ◌≤◌, [], List, length, map, refl, subst, arith}
use Rattle.std.proofs.lemmas.Bool.Decides.{nat_tests}
use Rattle.std.proofs.lemmas.Result.{err_from_is_err_and}
use Rattle.c_grammar.specs.declared.token.Token.{Token}
use Rattle.c_external_read.specs.Counts.{Counted}
use Rattle.c_external_read.specs.Files.{deepest, externals_at}
use Rattle.c_external_read.specs.Views.{view_external}
use Rattle.c_external_read.proofs.Counting.{counted_on}
use Rattle.c_external_read.proofs.Turns.{begun, goes_on_by, stops, ends, is_empty}
use Rattle.c_external_read.proofs.file.read_externals.Goals as goal

pub externals-init : goal.externals-init
externals-init c = rw (c.new-externals.ensures.items, c.new-scope.ensures) (record { reads = begun (externals_at deepest (length c.args.tokens.now) [] c.args.tokens.now); counted = refl; within = omega arith })

pub externals-preserved : goal.externals-preserved
externals-preserved c =
    let some : 1 ≤ length c.externals.rest.now = grind (arith, nat_tests, c.externals-test.ensures) in
    rw c.in_ok-push.ensures.items (record {
      reads = goes_on_by deepest (map view_external c.externals.externals.items) c.externals.scope c.externals.rest.now _ c.externals.invariant.reads view_external c.externals.externals.items c.in_ok-one.one _ c.in_ok-one.after.now refl some c.in_ok-one.ensures.read c.in_ok-one.ensures.scope;
      counted = counted_on c.args.counts.now (length c.args.tokens.now) c.externals.externals.items c.in_ok-one.one c.args.tokens.now c.externals.rest.now c.in_ok-one.after.now c.externals.invariant.counted c.in_ok-one.ensures.counted;
      within = omega (arith, c.externals.invariant.within, c.in_ok-one.ensures.shorter);
    })

pub returns-in_err-one-clause-read : goal.returns-in_err-one-clause-read
returns-in_err-one-clause-read c =
    let some : 1 ≤ length c.externals.rest.now = grind (arith, nat_tests, c.externals-test.ensures) in
    let p = err_from_is_err_and c.from_residual.result c.from_residual.ensures.1 in
    rw (p.1, p.2) (stops deepest (map view_external c.externals.externals.items) c.externals.scope c.externals.rest.now _ c.externals.invariant.reads c.in_err-one.field-0.0 some c.in_err-one.ensures.read)

pub returns-clause-read : goal.returns-clause-read
returns-clause-read c =
    let over : length c.externals.rest.now ≡ 0 = grind (arith, nat_tests, c.externals-test.ensures) in
    ends deepest (map view_external c.externals.externals.items) c.externals.scope c.externals.rest.now _ c.externals.invariant.reads (omega (arith, over))

pub returns-clause-counted : goal.returns-clause-counted
returns-clause-counted c =
    let over : length c.externals.rest.now ≡ 0 = grind (arith, nat_tests, c.externals-test.ensures) in
    subst (λ (us : List Token). Counted c.args.counts.now (length c.args.tokens.now) c.args.tokens.now c.externals.externals.items us) (is_empty c.externals.rest.now over) c.externals.invariant.counted
