use Rattle.std.proofs.Common.{◌≡◌, length}
use Rattle.reg_alloc.specs.Below.{all_homes}
use Rattle.reg_alloc.proofs.tests.all_homes.Given as goal

abbrev pub invariant-loop-home : goal.invariant-loop-home
invariant-loop-home l = all_homes l.n l.rest ≡ all_homes l.n l.homes

abbrev pub decreases-loop-home : goal.decreases-loop-home
decreases-loop-home l = length l.rest
