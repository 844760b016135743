use Rattle.std.proofs.Common.{◌≡◌, length}
use Rattle.flat_ir.specs.Checked.{all_apart}
use Rattle.flat_ir.proofs.checks.are_all_apart.Given as goal

abbrev pub invariant-loop-rest : goal.invariant-loop-rest
invariant-loop-rest l = all_apart l.initial.rest ≡ all_apart l.rest

abbrev pub decreases-loop-rest : goal.decreases-loop-rest
decreases-loop-rest l = length l.rest
