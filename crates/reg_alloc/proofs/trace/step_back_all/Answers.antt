use Rattle.std.proofs.Common.{◌≡◌, ◌<◌, ◌∙◌, List, ℕ, true, false, refl, sym, subst, arith, length}
use Rattle.reg_alloc.specs.declared.occurrences.Occurrence.{Occurrence}
use Rattle.reg_alloc.specs.Occurs.{Each}
use Rattle.reg_alloc.proofs.Tracing.{step_falls, steps_on, steps_end, steps_done, each_first}
use Rattle.reg_alloc.proofs.trace.step_back_all.Goals as goal

pub loop-o-init : goal.loop-o-init
loop-o-init c = record { blocks = c.requires.blocks; count = refl; falls = omega arith; stepped = λ claims stack ok x. x }

pub step_back-requires-clause-block : goal.step_back-requires-clause-block
step_back-requires-clause-block c = (each_first (λ o. o.block < length c.args.facts.now.proc.now.blocks) c.loop-o.rest.now c.in-Some.o.now c.in-Some.tail.now c.in-Some.ensures.cases.0 c.loop-o.invariant.blocks).0

pub returns-then-not-went-clause-stepped : goal.returns-then-not-went-clause-stepped
returns-then-not-went-clause-stepped c = c.loop-o.invariant.stepped c.step_back.new.claims.items c.step_back.new.stack.items false (steps_end c.args.facts.now.places.now c.args.facts.now.proc.now c.args.v c.in-Some.o.now c.in-Some.tail.now c.loop-o.rest.now c.loop-o.claims.items c.loop-o.stack.items c.step_back.new.claims.items c.step_back.new.stack.items c.in_ok-went.went c.in-Some.ensures.cases.0 c.if-not-went.true c.in_ok-went.ensures)

pub returns-then-not-went-clause-falls : goal.returns-then-not-went-clause-falls
returns-then-not-went-clause-falls c =
    let lb = (each_first (λ o. o.block < length c.args.facts.now.proc.now.blocks) c.loop-o.rest.now c.in-Some.o.now c.in-Some.tail.now c.in-Some.ensures.cases.0 c.loop-o.invariant.blocks).0 in
    let f = step_falls c.args.facts.now.places.now c.args.facts.now.proc.now c.args.v c.in-Some.o.now.block c.loop-o.claims.items c.loop-o.stack.items c.step_back.new.claims.items c.step_back.new.stack.items c.in_ok-went.went (omega (arith, lb, c.loop-o.invariant.count, c.requires.count)) c.in_ok-went.ensures in
    let a = f.0 in
    omega (arith, a, c.loop-o.invariant.falls)

pub loop-o-preserved : goal.loop-o-preserved
loop-o-preserved c =
    let rest = each_first (λ o. o.block < length c.args.facts.now.proc.now.blocks) c.loop-o.rest.now c.in-Some.o.now c.in-Some.tail.now c.in-Some.ensures.cases.0 c.loop-o.invariant.blocks in
    let lb = rest.0 in
    let f = step_falls c.args.facts.now.places.now c.args.facts.now.proc.now c.args.v c.in-Some.o.now.block c.loop-o.claims.items c.loop-o.stack.items c.step_back.new.claims.items c.step_back.new.stack.items c.in_ok-went.went (omega (arith, lb, c.loop-o.invariant.count, c.requires.count)) c.in_ok-went.ensures in
    let a = f.0 in
    record {
      blocks = rest.1;
      count = f.1 ∙ c.loop-o.invariant.count;
      falls = omega (arith, a, c.loop-o.invariant.falls);
      stepped = λ claims stack ok x. c.loop-o.invariant.stepped claims stack ok (steps_on c.args.facts.now.places.now c.args.facts.now.proc.now c.args.v c.in-Some.o.now c.in-Some.tail.now c.loop-o.rest.now c.loop-o.claims.items c.loop-o.stack.items c.step_back.new.claims.items c.step_back.new.stack.items claims stack ok c.in_ok-went.went c.in-Some.ensures.cases.0 c.if-not-went.false c.in_ok-went.ensures x);
    }

pub returns-clause-stepped : goal.returns-clause-stepped
returns-clause-stepped c = c.loop-o.invariant.stepped c.loop-o.claims.items c.loop-o.stack.items true (steps_done c.args.facts.now.places.now c.args.facts.now.proc.now c.args.v c.loop-o.rest.now c.loop-o.claims.items c.loop-o.stack.items c.in_default.ensures.cases)
