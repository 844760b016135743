use Rattle.std.proofs.Common.{◌≡◌, length}
use Rattle.f_unit_items.specs.Units.{result_share}
use Rattle.f_unit_items.proofs.head.result_share.Given as goal

abbrev pub invariant-prefixes : goal.invariant-prefixes
invariant-prefixes l = result_share l.rest ≡ result_share l.prefixes

abbrev pub decreases-prefixes : goal.decreases-prefixes
decreases-prefixes l = length l.rest
