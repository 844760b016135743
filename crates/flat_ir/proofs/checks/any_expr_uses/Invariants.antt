use Rattle.std.proofs.Common.{◌≡◌, length}
use Rattle.flat_ir.specs.Checked.{any_uses}
use Rattle.flat_ir.specs.View.{exprs_of}
use Rattle.flat_ir.proofs.checks.any_expr_uses.Given as goal

abbrev pub invariant-loop-rest : goal.invariant-loop-rest
invariant-loop-rest l = any_uses l.x (exprs_of l.initial.rest) ≡ any_uses l.x (exprs_of l.rest)

abbrev pub decreases-loop-rest : goal.decreases-loop-rest
decreases-loop-rest l = length l.rest
