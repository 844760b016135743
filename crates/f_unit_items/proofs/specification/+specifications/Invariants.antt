use Rattle.std.proofs.Common.{◌≡◌, ◌≤◌, map, take, length}
use Rattle.f_unit_items.specs.Fronts.{each, each_given}
use Rattle.f_unit_items.specs.Units.{declaration, interface_body}
use Rattle.f_unit_items.proofs.specification.+specifications.Given as goal

abbrev pub invariant-put_declarations-loop-left : goal.invariant-put_declarations-loop-left
invariant-put_declarations-loop-left l = record { within : l.left ≤ length l.declarations; so_far : each (map declaration (take l.left l.declarations)) l.out ≡ each (map declaration l.declarations) l.initial.out }

abbrev pub decreases-put_declarations-loop-left : goal.decreases-put_declarations-loop-left
decreases-put_declarations-loop-left l = l.left

abbrev pub invariant-put_bodies-loop-left : goal.invariant-put_bodies-loop-left
invariant-put_bodies-loop-left l = record { within : l.left ≤ length l.bodies; so_far : each_given l.class (map interface_body (take l.left l.bodies)) l.out ≡ each_given l.class (map interface_body l.bodies) l.initial.out }

abbrev pub decreases-put_bodies-loop-left : goal.decreases-put_bodies-loop-left
decreases-put_bodies-loop-left l = l.left
