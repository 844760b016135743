use Rattle.std.proofs.Common.{◌≡◌, ◌+◌, ℕ, suc, List, sym, subst, arith}
use Rattle.f_order.proofs.Waits.{ReadyBelow, ready_first, ready_more, ready_all}
use Rattle.f_order.proofs.ready.all_ready.Goals as goal

pub units-init : goal.units-init
units-init c = record { within = omega arith; below = ready_first c.args.graph.now.modules.now c.args.done.now c.args.counts.now c.new-ready.result.keys c.new-ready.ensures.empty }

pub units-preserved : goal.units-preserved
units-preserved c =
    let modules = c.args.graph.now.modules.now in
    let done = c.args.done.now in
    let counts = c.args.counts.now in
    let n = c.units.unit in
    let test = c.units-test.true in
    let next : suc n ≡ n + 1 = omega arith in
    let P : List ℕ → Type 0 = λ l. ReadyBelow modules done counts l (suc n) in
    let Q : ℕ → Type 0 = λ j. ReadyBelow modules done counts c.put_ready.new.ready.keys j in
    record {
      within = omega (arith, test);
      below = subst Q next (subst P (sym c.in_ok-put_ready.ensures) (ready_more modules done counts c.units.ready.keys n c.units.invariant.below));
    }

pub returns : goal.returns
returns c =
    let test = c.units-test.false in
    ready_all c.args.graph.now.modules.now c.args.done.now c.args.counts.now c.units.ready.keys c.units.unit (omega (arith, test)) c.units.invariant.below
