use Rattle.std.proofs.Common.{◌≡◌, ◌≤◌, ◌<◌, ◌-◌, ℕ, true}
use Rattle.f_order.specs.Marks.{marked}
use Rattle.f_order.specs.Scopes.{UnitsIn}
use Rattle.f_order.proofs.scopes.put_others.Given as goal

abbrev pub invariant-scopes : goal.invariant-scopes
invariant-scopes l = record {
  within : l.scope ≤ l.count;
  known : UnitsIn l.program l.units (l.found.items, l.marks.items);
  below : (s : ℕ) → s < l.scope → marked l.marks.items s ≡ true;
}

abbrev pub decreases-scopes : goal.decreases-scopes
decreases-scopes l = l.count - l.scope
