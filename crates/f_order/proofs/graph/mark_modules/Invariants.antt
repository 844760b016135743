use Rattle.std.proofs.Common.{◌≡◌, ◌≤◌, ◌-◌, length}
use Rattle.f_order.proofs.Marking.{MarkedBelow}
use Rattle.f_order.proofs.Edges.{NamesAt}
use Rattle.f_order.proofs.graph.mark_modules.Given as goal

abbrev pub invariant-items : goal.invariant-items
invariant-items l = record {
  within : l.place ≤ l.count;
  long : length l.marks.items ≡ l.program.scopes;
  below : MarkedBelow (NamesAt l.program.items) l.marks.items l.place;
}

abbrev pub decreases-items : goal.decreases-items
decreases-items l = l.count - l.place
