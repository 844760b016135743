use Rattle.std.proofs.Common.{◌≡◌, ◌≤◌, ◌<◌, ◌-◌, ℕ, true, length}
use Rattle.f_order.specs.Graph.{is_other}
use Rattle.f_order.proofs.order.first_other.Given as goal

abbrev pub invariant-units : goal.invariant-units
invariant-units l = record {
  within : l.unit ≤ length l.units;
  none : (v : ℕ) → v < l.unit → is_other l.units l.done v ≡ true → ⊥;
}

abbrev pub decreases-units : goal.decreases-units
decreases-units l = length l.units - l.unit
