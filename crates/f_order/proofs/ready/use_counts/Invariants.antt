use Rattle.std.proofs.Common.{◌≡◌, ◌++◌, map, length}
use Rattle.f_order.proofs.ready.use_counts.Given as goal

abbrev pub invariant-units : goal.invariant-units
invariant-units l = l.counts.items ++ map length l.rest ≡ map length l.edges

abbrev pub decreases-units : goal.decreases-units
decreases-units l = length l.rest
