use Rattle.std.proofs.Common.{◌≡◌, ◌≤◌, map, take, length}
use Rattle.f_tree.specs.Lexemes.{each, listed}
use Rattle.f_tree.specs.Expressions.{expression, link, part, argument, parameter, behind_percents}
use Rattle.f_tree.proofs.spell_expression.+spell.Given as goal

abbrev pub invariant-put_expressions-loop-left : goal.invariant-put_expressions-loop-left
invariant-put_expressions-loop-left l = record { within : l.left ≤ length l.items; so_far : listed (map expression (take l.left l.items)) l.out ≡ listed (map expression l.items) l.initial.out }

abbrev pub decreases-put_expressions-loop-left : goal.decreases-put_expressions-loop-left
decreases-put_expressions-loop-left l = l.left

abbrev pub invariant-put_links-loop-left : goal.invariant-put_links-loop-left
invariant-put_links-loop-left l = record { within : l.left ≤ length l.links; so_far : each (map link (take l.left l.links)) l.out ≡ each (map link l.links) l.initial.out }

abbrev pub decreases-put_links-loop-left : goal.decreases-put_links-loop-left
decreases-put_links-loop-left l = l.left

abbrev pub invariant-put_parts-loop-left : goal.invariant-put_parts-loop-left
invariant-put_parts-loop-left l = record { within : l.left ≤ length l.parts; so_far : behind_percents (map part (take l.left l.parts)) l.out ≡ behind_percents (map part l.parts) l.initial.out }

abbrev pub decreases-put_parts-loop-left : goal.decreases-put_parts-loop-left
decreases-put_parts-loop-left l = l.left

abbrev pub invariant-put_arguments-loop-left : goal.invariant-put_arguments-loop-left
invariant-put_arguments-loop-left l = record { within : l.left ≤ length l.arguments; so_far : listed (map argument (take l.left l.arguments)) l.out ≡ listed (map argument l.arguments) l.initial.out }

abbrev pub decreases-put_arguments-loop-left : goal.decreases-put_arguments-loop-left
decreases-put_arguments-loop-left l = l.left

abbrev pub invariant-put_parameters-loop-left : goal.invariant-put_parameters-loop-left
invariant-put_parameters-loop-left l = record { within : l.left ≤ length l.parameters; so_far : listed (map parameter (take l.left l.parameters)) l.out ≡ listed (map parameter l.parameters) l.initial.out }

abbrev pub decreases-put_parameters-loop-left : goal.decreases-put_parameters-loop-left
decreases-put_parameters-loop-left l = l.left
