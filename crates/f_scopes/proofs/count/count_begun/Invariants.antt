use Rattle.std.proofs.Common.{◌≡◌, ◌+◌, ◌≤◌, map, length}
use Rattle.f_scopes.specs.Numbers.{begun, placed_item}
use Rattle.f_scopes.proofs.count.count_begun.Given as goal

abbrev pub invariant-items : goal.invariant-items
invariant-items l = record {
  counted : l.count + begun (map placed_item l.rest) ≡ begun (map placed_item l.items);
  within : l.count + length l.rest ≤ length l.items;
}

abbrev pub decreases-items : goal.decreases-items
decreases-items l = length l.rest
