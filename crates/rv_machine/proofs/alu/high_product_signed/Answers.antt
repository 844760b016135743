use Rattle.std.proofs.Common.{◌∙◌, ap, ◌/◌, ◌^◌}
use Rattle.std.specs.Prelude.{◌*ℤ◌}
use Rattle.std.specs.Int.{w64, w128}
use mir.Val.{to_z, of_z}
use Rattle.rv_machine.proofs.Products.{product_of_bits}
use Rattle.rv_machine.proofs.alu.high_product_signed.Goals as goal

pub returns : goal.returns
returns c =
    let x = c.cast_signed.result in
    let y = c.cast_signed-2.result in
    ap (λ r. r / 2 ^ 64)
    (product_of_bits x y c.cast_unsigned.result c.cast_signed.type_inv c.cast_signed-2.type_inv c.cast_unsigned.ensures
    ∙ ap (λ u. of_z w128 (u *ℤ y)) c.cast_signed.ensures
    ∙ ap (λ u. of_z w128 (to_z w64 c.args.a *ℤ u)) c.cast_signed-2.ensures)
