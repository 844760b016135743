use Rattle.std.proofs.Common.{◌≡◌, length}
use Rattle.reg_alloc.specs.Below.{below}
use Rattle.reg_alloc.proofs.tests.are_below.Given as goal

abbrev pub invariant-loop-v : goal.invariant-loop-v
invariant-loop-v l = below l.n l.rest ≡ below l.n l.values

abbrev pub decreases-loop-v : goal.decreases-loop-v
decreases-loop-v l = length l.rest
