use Rattle.std.proofs.Common.{◌≡◌, ◌≤◌, map, take, length}
use Rattle.f_unit_items.specs.Fronts.{each}
use Rattle.f_unit_items.specs.Units.{dummy}
use Rattle.f_unit_items.proofs.head.put_dummies.Given as goal

abbrev pub invariant-loop-left : goal.invariant-loop-left
invariant-loop-left l = record { within : l.left ≤ length l.list; so_far : each (map dummy (take l.left l.list)) l.out ≡ each (map dummy l.list) l.initial.out }

abbrev pub decreases-loop-left : goal.decreases-loop-left
decreases-loop-left l = l.left
