use Rattle.std.proofs.Common.{◌≡◌, ◌≤◌, ◌-◌, length}
use Rattle.f_names.proofs.Walking.{ListsBelow}
use Rattle.f_names.proofs.lists.unit_places.Given as goal

abbrev pub invariant-items : goal.invariant-items
invariant-items l = record {
  within : l.place ≤ l.count;
  long : length l.lists.items ≡ l.program.scopes;
  below : ListsBelow l.program.items l.lists.items l.place;
}

abbrev pub decreases-items : goal.decreases-items
decreases-items l = l.count - l.place
