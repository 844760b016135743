use Rattle.std.proofs.Common.{◌+◌, ◌*◌}
use Rattle.flat_ir.specs.View.{expr_of}
use Rattle.flatten.specs.Sizes.{size_of_expr}
use Rattle.flatten.proofs.measure.+spare.Given as goal

abbrev pub decreases-spare_values : goal.decreases-spare_values
decreases-spare_values l = 3 * size_of_expr (expr_of l.e.now)

abbrev pub decreases-spare_of_two : goal.decreases-spare_of_two
decreases-spare_of_two l = 3 * (size_of_expr (expr_of l.a.now) + size_of_expr (expr_of l.b.now)) + 2

abbrev pub decreases-spare_of_operand : goal.decreases-spare_of_operand
decreases-spare_of_operand l = 3 * size_of_expr (expr_of l.e.now) + 1
