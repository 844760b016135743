use Rattle.std.proofs.Common.{◌≡◌, length}
use Rattle.f_unit_items.specs.Units.{has_result}
use Rattle.f_unit_items.proofs.head.has_result.Given as goal

abbrev pub invariant-suffixes : goal.invariant-suffixes
invariant-suffixes l = has_result l.rest ≡ has_result l.suffixes

abbrev pub decreases-suffixes : goal.decreases-suffixes
decreases-suffixes l = length l.rest
