use Rattle.std.proofs.Common.{◌≡◌, ◌≤◌, map, take, length}
use Rattle.f_unit_items.specs.Fronts.{each}
use Rattle.f_unit_items.specs.Units.{suffix}
use Rattle.f_unit_items.proofs.head.put_suffixes.Given as goal

abbrev pub invariant-loop-left : goal.invariant-loop-left
invariant-loop-left l = record { within : l.left ≤ length l.list; so_far : each (map (suffix l.prefixes) (take l.left l.list)) l.out ≡ each (map (suffix l.prefixes) l.list) l.initial.out }

abbrev pub decreases-loop-left : goal.decreases-loop-left
decreases-loop-left l = l.left
