use Rattle.std.proofs.Common.{◌≡◌, length}
use Rattle.flat_ir.specs.Checked.{any_is}
use Rattle.flat_ir.proofs.checks.any_value_is.Given as goal

abbrev pub invariant-loop-rest : goal.invariant-loop-rest
invariant-loop-rest l = any_is l.x l.initial.rest ≡ any_is l.x l.rest

abbrev pub decreases-loop-rest : goal.decreases-loop-rest
decreases-loop-rest l = length l.rest
