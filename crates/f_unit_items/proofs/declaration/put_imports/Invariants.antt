use Rattle.std.proofs.Common.{◌≡◌, ◌≤◌, map, take, length}
use Rattle.f_unit_items.specs.Fronts.{each}
use Rattle.f_unit_items.specs.Declarations.{imported}
use Rattle.f_unit_items.proofs.declaration.put_imports.Given as goal

abbrev pub invariant-loop-left : goal.invariant-loop-left
invariant-loop-left l = record { within : l.left ≤ length l.list; so_far : each (map imported (take l.left l.list)) l.out ≡ each (map imported l.list) l.initial.out }

abbrev pub decreases-loop-left : goal.decreases-loop-left
decreases-loop-left l = l.left
