use Rattle.std.proofs.Common.{◌*◌, ◌<◌, ◌^◌, arith}
use Rattle.f_value.proofs.Trimming.{small_product}
use Rattle.f_value.proofs.intrinsics.to_left.Goals as goal

pub overflow_mul-result : goal.overflow_mul-result
overflow_mul-result c =
    let small : c.args.n * 2 ^ c.args.s < 2 ^ 127 = small_product c.args.n c.args.s (omega arith) c.requires in
    rw c.pow-factor.ensures (omega arith)

pub returns-clause-small : goal.returns-clause-small
returns-clause-small c =
    let small : c.args.n * 2 ^ c.args.s < 2 ^ 127 = small_product c.args.n c.args.s (omega arith) c.requires in
    rw c.pow-factor.ensures small
