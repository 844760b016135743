use Rattle.std.proofs.Common.{◌≡◌, ◌+◌, ℕ, suc, subst, arith}
use Rattle.f_order.proofs.Cycles.{Others, others_next, others_done}
use Rattle.f_order.proofs.order.order_others.Goals as goal

pub units-init : goal.units-init
units-init c = record { within = omega arith; others = record { are = c.requires.done; all = c.requires.modules; below = λ v lt. absurd (omega (arith, lt)) } }

pub units-preserved : goal.units-preserved
units-preserved c =
    let test = c.units-test.true in
    let count = c.scope_count-count.ensures in
    let next : suc c.units.unit ≡ c.units.unit + 1 = omega arith in
    let P : ℕ → Type 0 = λ n. Others c.args.program.now c.take_other.new.order.items c.take_other.new.done.items n in
    record {
      within = omega (arith, test);
      others = subst P next (others_next c.args.program.now c.args.graph.now.units.now c.args.graph.now.modules.now c.args.graph.now.edges.now c.requires.graph c.units.order.items c.take_other.new.order.items c.units.done.items c.take_other.new.done.items c.units.unit (omega (arith, test, count)) c.units.invariant.others c.in_ok-take_other.ensures.order c.in_ok-take_other.ensures.done);
    }

pub returns : goal.returns
returns c =
    let test = c.units-test.false in
    let count = c.scope_count-count.ensures in
    others_done c.args.program.now c.args.graph.now.units.now c.args.graph.now.modules.now c.args.graph.now.edges.now c.requires.graph c.units.order.items c.units.done.items c.units.unit (omega (arith, test, count)) c.units.invariant.others
