use Rattle.std.proofs.Common.{◌≡◌, length}
use Rattle.f_unit_items.specs.Declarations.{access_among}
use Rattle.f_unit_items.proofs.declaration.access_among.Given as goal

abbrev pub invariant-attributes : goal.invariant-attributes
invariant-attributes l = access_among l.rest ≡ access_among l.attributes

abbrev pub decreases-attributes : goal.decreases-attributes
decreases-attributes l = length l.rest
