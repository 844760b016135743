use Rattle.std.proofs.Common.{◌≡◌, length}
use Rattle.f_unit_items.specs.Declarations.{pointer_access}
use Rattle.f_unit_items.proofs.definition.pointer_access.Given as goal

abbrev pub invariant-attributes : goal.invariant-attributes
invariant-attributes l = pointer_access l.rest ≡ pointer_access l.attributes

abbrev pub decreases-attributes : goal.decreases-attributes
decreases-attributes l = length l.rest
