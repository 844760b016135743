use Rattle.std.proofs.Common.{◌≡◌, ◌≤◌, map, take, length}
use Rattle.f_unit_items.specs.Fronts.{each, each_given}
use Rattle.f_unit_items.specs.declared.expression.PartRole.TheVariants.{Selected}
use Rattle.f_unit_items.specs.Expressions.{expression, link, part, argument, parameter}
use Rattle.f_unit_items.proofs.expression.+names.Given as goal

abbrev pub invariant-put_expressions-loop-left : goal.invariant-put_expressions-loop-left
invariant-put_expressions-loop-left l = record { within : l.left ≤ length l.all; so_far : each (map expression (take l.left l.all)) l.out ≡ each (map expression l.all) l.initial.out }

abbrev pub decreases-put_expressions-loop-left : goal.decreases-put_expressions-loop-left
decreases-put_expressions-loop-left l = l.left

abbrev pub invariant-put_links-loop-left : goal.invariant-put_links-loop-left
invariant-put_links-loop-left l = record { within : l.left ≤ length l.links; so_far : each (map link (take l.left l.links)) l.out ≡ each (map link l.links) l.initial.out }

abbrev pub decreases-put_links-loop-left : goal.decreases-put_links-loop-left
decreases-put_links-loop-left l = l.left

abbrev pub invariant-put_selected-loop-left : goal.invariant-put_selected-loop-left
invariant-put_selected-loop-left l = record { within : l.left ≤ length l.parts; so_far : each_given Selected (map part (take l.left l.parts)) l.out ≡ each_given Selected (map part l.parts) l.initial.out }

abbrev pub decreases-put_selected-loop-left : goal.decreases-put_selected-loop-left
decreases-put_selected-loop-left l = l.left

abbrev pub invariant-put_arguments-loop-left : goal.invariant-put_arguments-loop-left
invariant-put_arguments-loop-left l = record { within : l.left ≤ length l.arguments; so_far : each (map argument (take l.left l.arguments)) l.out ≡ each (map argument l.arguments) l.initial.out }

abbrev pub decreases-put_arguments-loop-left : goal.decreases-put_arguments-loop-left
decreases-put_arguments-loop-left l = l.left

abbrev pub invariant-put_parameters-loop-left : goal.invariant-put_parameters-loop-left
invariant-put_parameters-loop-left l = record { within : l.left ≤ length l.parameters; so_far : each (map parameter (take l.left l.parameters)) l.out ≡ each (map parameter l.parameters) l.initial.out }

abbrev pub decreases-put_parameters-loop-left : goal.decreases-put_parameters-loop-left
decreases-put_parameters-loop-left l = l.left
