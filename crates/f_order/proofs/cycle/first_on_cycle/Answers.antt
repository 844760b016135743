use Rattle.std.proofs.Common.{arith}
use Rattle.f_order.proofs.Cycles.{no_cycle_all}
use Rattle.f_order.proofs.cycle.first_on_cycle.Goals as goal

pub returns : goal.returns
returns c =
    let test = c.items-test.false in
    let count = c.item_count-count.ensures in
    no_cycle_all c.args.program.now.items c.items.place (omega (arith, test, count)) c.items.invariant.none
