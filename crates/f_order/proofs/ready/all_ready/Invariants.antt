use Rattle.std.proofs.Common.{◌≤◌, ◌-◌, length}
use Rattle.f_order.proofs.Waits.{ReadyBelow}
use Rattle.f_order.proofs.ready.all_ready.Given as goal

abbrev pub invariant-units : goal.invariant-units
invariant-units l = record {
  within : l.unit ≤ length l.graph.modules.now;
  below : ReadyBelow l.graph.modules.now l.done l.counts l.ready.keys l.unit;
}

abbrev pub decreases-units : goal.decreases-units
decreases-units l = length l.graph.modules.now - l.unit
