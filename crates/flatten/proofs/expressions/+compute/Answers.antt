use Rattle.std.proofs.Common.{◌≡◌, ◌+◌, ◌*◌, ◌<◌, OnOk, arith}
use Rattle.flat_ir.specs.View.{expr_of}
use Rattle.flatten.specs.Code.{expr_code}
use Rattle.flatten.specs.Emission.{changed}
use Rattle.flatten.specs.Sizes.{size_of_expr}
use Rattle.flatten.proofs.Arms.{binary_arm, load_arm}
use Rattle.flatten.proofs.expressions.+compute.Goals as goal

pub compute-compute_binary-requires : goal.compute-compute_binary-requires
compute-compute_binary-requires t c =
    let x = c.get.result.now in
    let y = c.get-in-Binary.result.now in
    let lighter = binary_arm (λ e. 3 * (size_of_expr (expr_of x) + size_of_expr (expr_of y)) + 2 < 3 * size_of_expr e) c.args.e.now c.in-Binary.o c.in-Binary.a c.in-Binary.b x y c.in-Binary.is c.get.ensures c.get-in-Binary.ensures (omega arith) in
    (omega (arith, lighter, c.decreases), tt)

pub compute-compute_load-requires : goal.compute-compute_load-requires
compute-compute_load-requires t c =
    let x = c.get-in-Load.result.now in
    let lighter = load_arm (λ e. 3 * size_of_expr (expr_of x) + 2 < 3 * size_of_expr e) c.args.e.now c.in-Load.w c.in-Load.is_signed c.in-Load.a x c.in-Load.is c.get-in-Load.ensures (omega arith) in
    (omega (arith, lighter, c.decreases), tt)

pub compute-returns-in-Binary : goal.compute-returns-in-Binary
compute-returns-in-Binary t c =
    binary_arm (λ e. OnOk c.compute_binary.result (c.compute_binary.new.out ≡ changed (expr_code e c.args.x c.args.spare c.args.out.now.current) c.args.out.now)) c.args.e.now c.in-Binary.o c.in-Binary.a c.in-Binary.b c.get.result.now c.get-in-Binary.result.now c.in-Binary.is c.get.ensures c.get-in-Binary.ensures c.compute_binary.ensures

pub compute-returns-in-Load : goal.compute-returns-in-Load
compute-returns-in-Load t c =
    load_arm (λ e. OnOk c.compute_load.result (c.compute_load.new.out ≡ changed (expr_code e c.args.x c.args.spare c.args.out.now.current) c.args.out.now)) c.args.e.now c.in-Load.w c.in-Load.is_signed c.in-Load.a c.get-in-Load.result.now c.in-Load.is c.get-in-Load.ensures c.compute_load.ensures
