use Rattle.std.proofs.Common.{length}
use Rattle.f_order.proofs.Behind.{Going}
use Rattle.f_order.proofs.scopes.put_units.Given as goal

abbrev pub invariant-units : goal.invariant-units
invariant-units l = Going l.program l.units l.rest (l.found.items, l.marks.items)

abbrev pub decreases-units : goal.decreases-units
decreases-units l = length l.rest
