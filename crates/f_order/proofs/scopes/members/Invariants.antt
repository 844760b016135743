use Rattle.std.proofs.Common.{◌≡◌, ◌≤◌, ◌-◌, length}
use Rattle.f_order.proofs.Edges.{PairsBelow}
use Rattle.f_order.proofs.Behind.{IsMember}
use Rattle.f_order.proofs.scopes.members.Given as goal

abbrev pub invariant-scopes : goal.invariant-scopes
invariant-scopes l = record {
  within : l.scope ≤ l.count;
  long : length l.lists.items ≡ l.count;
  below : PairsBelow (IsMember l.units l.count) l.lists.items l.scope;
}

abbrev pub decreases-scopes : goal.decreases-scopes
decreases-scopes l = l.count - l.scope
