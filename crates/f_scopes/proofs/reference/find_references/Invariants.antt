use Rattle.std.proofs.Common.{◌≡◌, ◌≤◌, ◌-◌, length}
use Rattle.f_scopes.specs.References.{AreFirst}
use Rattle.f_scopes.proofs.reference.find_references.Given as goal

abbrev pub invariant-items : goal.invariant-items
invariant-items l = record {
  within : l.place ≤ l.count;
  long : length l.found.items ≡ l.place;
  first : AreFirst l.program.items l.found.items;
}

abbrev pub decreases-items : goal.decreases-items
decreases-items l = l.count - l.place
