use Rattle.std.proofs.Common.{◌≤◌, ◌<◌, ◌-◌, ℕ}
use Rattle.f_items.specs.Order.{IsOnCycle}
use Rattle.f_order.proofs.cycle.first_on_cycle.Given as goal

abbrev pub invariant-items : goal.invariant-items
invariant-items l = record {
  within : l.place ≤ l.count;
  none : (j : ℕ) → j < l.place → IsOnCycle l.program.items j → ⊥;
}

abbrev pub decreases-items : goal.decreases-items
decreases-items l = l.count - l.place
