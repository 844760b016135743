use Rattle.std.proofs.Common.{◌+◌, ◌*◌}
use Rattle.flat_ir.specs.View.{expr_of}
use Rattle.flatten.specs.Sizes.{size_of_expr}
use Rattle.flatten.proofs.expressions.+compute.Given as goal

abbrev pub decreases-compute : goal.decreases-compute
decreases-compute l = 3 * size_of_expr (expr_of l.e.now)

abbrev pub decreases-compute_binary : goal.decreases-compute_binary
decreases-compute_binary l = 3 * (size_of_expr (expr_of l.a.now) + size_of_expr (expr_of l.b.now)) + 2

abbrev pub decreases-compute_load : goal.decreases-compute_load
decreases-compute_load l = 3 * size_of_expr (expr_of l.a.now) + 2

abbrev pub decreases-compute_operand : goal.decreases-compute_operand
decreases-compute_operand l = 3 * size_of_expr (expr_of l.e.now) + 1
