use Rattle.std.proofs.Common.{◌≡◌, ◌+◌, ◌<◌, ℕ, suc, true, subst, arith}
use Rattle.f_order.specs.Marks.{marked}
use Rattle.f_order.specs.Reach.{State}
use Rattle.f_order.proofs.Behind.{others_in, others_below, order_is}
use Rattle.f_order.proofs.scopes.put_others.Goals as goal

pub scopes-preserved : goal.scopes-preserved
scopes-preserved c =
    let s : State = (c.scopes.found.items, c.scopes.marks.items) in
    let t : State = (c.extend_one.new.found.items, c.extend_one.new.marks.items) in
    let test = c.scopes-test.true in
    let count = c.scope_count-count.ensures in
    let lt : c.scopes.scope < c.args.program.now.scopes = omega (arith, test, count) in
    let next : suc c.scopes.scope ≡ c.scopes.scope + 1 = omega arith in
    let P : ℕ → Type 0 = λ n. (v : ℕ) → v < n → marked c.extend_one.new.marks.items v ≡ true in
    record {
      within = omega (arith, test);
      known = others_in c.args.program.now c.args.units.now c.requires.units s t c.scopes.scope lt c.scopes.invariant.known c.in_ok-extend_one.ensures;
      below = subst P next (others_below c.args.program.now c.args.units.now c.requires.units s t c.scopes.scope lt c.scopes.invariant.known c.in_ok-extend_one.ensures c.scopes.invariant.below);
    }

pub returns : goal.returns
returns c =
    let test = c.scopes-test.false in
    let count = c.scope_count-count.ensures in
    order_is c.args.program.now c.args.units.now c.requires.units (c.scopes.found.items, c.scopes.marks.items) c.scopes.scope (omega (arith, test, count)) c.scopes.invariant.known c.scopes.invariant.below
