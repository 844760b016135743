use Rattle.std.proofs.Common.{◌≡◌, length}
use Rattle.reg_alloc.specs.Below.{blocks_below}
use Rattle.reg_alloc.proofs.tests.blocks_below.Given as goal

abbrev pub invariant-loop-block : goal.invariant-loop-block
invariant-loop-block l = blocks_below l.n l.m l.rest ≡ blocks_below l.n l.m l.blocks

abbrev pub decreases-loop-block : goal.decreases-loop-block
decreases-loop-block l = length l.rest
