use Rattle.std.proofs.Common.{◌≡◌, ◌≤◌, map, take, length}
use Rattle.f_unit_items.specs.Fronts.{each}
use Rattle.f_unit_items.proofs.put.put_each.Given as goal

abbrev pub invariant-loop-left : goal.invariant-loop-left
invariant-loop-left g l = record { within : l.left ≤ length l.list; so_far : each (map g.T.HasItems.items (take l.left l.list)) l.out ≡ each (map g.T.HasItems.items l.list) l.initial.out }

abbrev pub decreases-loop-left : goal.decreases-loop-left
decreases-loop-left g l = l.left
