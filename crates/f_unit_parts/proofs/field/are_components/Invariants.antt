use Rattle.std.proofs.Common.{◌≡◌, map, length}
use Rattle.f_unit_grammar.specs.Units.{are_components}
use Rattle.f_declared.specs.Views.{view_entity}
use Rattle.f_unit_parts.proofs.field.are_components.Given as goal

abbrev pub invariant-loop-first : goal.invariant-loop-first
invariant-loop-first l = are_components (map view_entity l.rest) ≡ are_components (map view_entity l.fn.entities)

abbrev pub decreases-loop-first : goal.decreases-loop-first
decreases-loop-first l = length l.rest
