use Rattle.std.proofs.Common.{◌≡◌, ◌≤◌, ◌-◌, length}
use Rattle.f_order.proofs.Edges.{EdgesBelow}
use Rattle.f_order.proofs.graph.find_edges.Given as goal

abbrev pub invariant-items : goal.invariant-items
invariant-items l = record {
  within : l.place ≤ l.count;
  long : length l.edges.items ≡ l.program.scopes;
  below : EdgesBelow l.program.items l.edges.items l.place;
}

abbrev pub decreases-items : goal.decreases-items
decreases-items l = l.count - l.place
