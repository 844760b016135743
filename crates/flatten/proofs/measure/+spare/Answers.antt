use Rattle.std.proofs.Common.{◌≡◌, ◌+◌, ◌*◌, ◌<◌, IfOk, arith}
use Rattle.flat_ir.specs.View.{expr_of}
use Rattle.flatten.specs.Code.{spare}
use Rattle.flatten.specs.Sizes.{size_of_expr}
use Rattle.flatten.proofs.Arms.{binary_arm, load_arm}
use Rattle.flatten.proofs.measure.+spare.Goals as goal

pub spare_values-spare_of_two-requires : goal.spare_values-spare_of_two-requires
spare_values-spare_of_two-requires t c =
    let x = c.get.result.now in
    let y = c.get-in-Binary.result.now in
    let lighter = binary_arm (λ e. 3 * (size_of_expr (expr_of x) + size_of_expr (expr_of y)) + 2 < 3 * size_of_expr e) c.args.e.now c.in-Binary.field-0 c.in-Binary.a c.in-Binary.b x y c.in-Binary.is c.get.ensures c.get-in-Binary.ensures (omega arith) in
    (omega (arith, lighter, c.decreases), tt)

pub spare_values-spare_of_operand-requires : goal.spare_values-spare_of_operand-requires
spare_values-spare_of_operand-requires t c =
    let x = c.get-in-Load.result.now in
    let lighter = load_arm (λ e. 3 * size_of_expr (expr_of x) + 1 < 3 * size_of_expr e) c.args.e.now c.in-Load.field-0 c.in-Load.field-1 c.in-Load.a x c.in-Load.is c.get-in-Load.ensures (omega arith) in
    (omega (arith, lighter, c.decreases), tt)

pub spare_values-returns-in-Binary : goal.spare_values-returns-in-Binary
spare_values-returns-in-Binary t c =
    binary_arm (λ e. IfOk c.spare_of_two.result (λ n. n ≡ spare e)) c.args.e.now c.in-Binary.field-0 c.in-Binary.a c.in-Binary.b c.get.result.now c.get-in-Binary.result.now c.in-Binary.is c.get.ensures c.get-in-Binary.ensures c.spare_of_two.ensures

pub spare_values-returns-in-Load : goal.spare_values-returns-in-Load
spare_values-returns-in-Load t c =
    load_arm (λ e. IfOk c.spare_of_operand.result (λ n. n ≡ spare e)) c.args.e.now c.in-Load.field-0 c.in-Load.field-1 c.in-Load.a c.get-in-Load.result.now c.in-Load.is c.get-in-Load.ensures c.spare_of_operand.ensures
