use Rattle.std.proofs.Common.{◌≡◌, length}
use Rattle.f_unit_items.specs.Declarations.{type_access}
use Rattle.f_unit_items.proofs.definition.type_access.Given as goal

abbrev pub invariant-attributes : goal.invariant-attributes
invariant-attributes l = type_access l.rest ≡ type_access l.attributes

abbrev pub decreases-attributes : goal.decreases-attributes
decreases-attributes l = length l.rest
