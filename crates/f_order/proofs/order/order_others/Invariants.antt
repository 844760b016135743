use Rattle.std.proofs.Common.{◌≤◌, ◌-◌}
use Rattle.f_order.proofs.Cycles.{Others}
use Rattle.f_order.proofs.order.order_others.Given as goal

abbrev pub invariant-units : goal.invariant-units
invariant-units l = record {
  within : l.unit ≤ l.count;
  others : Others l.program l.order.items l.done.items l.unit;
}

abbrev pub decreases-units : goal.decreases-units
decreases-units l = l.count - l.unit
