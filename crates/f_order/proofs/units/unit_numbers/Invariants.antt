use Rattle.std.proofs.Common.{◌≡◌, ◌≤◌, ◌-◌, length}
use Rattle.f_order.specs.Units.{AreNumbers}
use Rattle.f_order.proofs.units.unit_numbers.Given as goal

abbrev pub invariant-scopes : goal.invariant-scopes
invariant-scopes l = record {
  within : l.scope ≤ length l.scopes;
  long : length l.units.items ≡ l.scope;
  known : AreNumbers l.scopes l.units.items l.scope;
}

abbrev pub decreases-scopes : goal.decreases-scopes
decreases-scopes l = length l.scopes - l.scope
