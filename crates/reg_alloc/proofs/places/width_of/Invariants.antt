use Rattle.std.proofs.Common.{◌≡◌, max, length}
use Rattle.reg_alloc.specs.Rows.{top}
use Rattle.reg_alloc.proofs.places.width_of.Given as goal

abbrev pub invariant-loop-place : goal.invariant-loop-place
invariant-loop-place l = max l.last (top l.rest) ≡ top l.places

abbrev pub decreases-loop-place : goal.decreases-loop-place
decreases-loop-place l = length l.rest
