use Rattle.std.proofs.Common.{◌≡◌, length}
use Rattle.f_unit_items.specs.Units.{result_type}
use Rattle.f_unit_items.proofs.head.result_type.Given as goal

abbrev pub invariant-prefixes : goal.invariant-prefixes
invariant-prefixes l = result_type l.rest ≡ result_type l.prefixes

abbrev pub decreases-prefixes : goal.decreases-prefixes
decreases-prefixes l = length l.rest
