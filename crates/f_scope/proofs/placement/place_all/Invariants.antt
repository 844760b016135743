use Rattle.std.proofs.Common.{◌≡◌, ◌++◌, reverse, vec_len}
use Rattle.f_scope.specs.Rows.{rows_after, placed_after}
use Rattle.f_scope.proofs.placement.place_all.Given as goal

abbrev pub invariant-items : goal.invariant-items
invariant-items l = record {
  rows : rows_after l.scopes.items l.current (reverse l.left.items) ≡ rows_after l.initial.scopes.items l.initial.current (reverse l.initial.left.items);
  placed : l.placed.items ++ placed_after l.scopes.items l.current (reverse l.left.items) ≡ l.initial.placed.items ++ placed_after l.initial.scopes.items l.initial.current (reverse l.initial.left.items);
}

abbrev pub decreases-items : goal.decreases-items
decreases-items l = vec_len l.left
