use Rattle.std.proofs.Common.{◌≡◌, ap, arith, length, get_or}
use Rattle.flatten.specs.declared.blocks.Block.{Block}
use Rattle.reg_alloc.proofs.Exact.{total_more}
use Rattle.reg_alloc.proofs.verdict.count_insns.Goals as goal

pub loop-block-preserved : goal.loop-block-preserved
loop-block-preserved c =
    let m = total_more c.as_slice-block-items.result.now c.loop-block.block-index c.block-item.result c.loop-block-test.true in
    let n : length c.block-item.result.insns ≡ length (get_or c.as_slice-block-items.result.now c.loop-block.block-index c.block-item.result).insns = ap (λ (x : Block). length x.insns) c.block-item.is in
    omega (arith, m, n, c.len.ensures, c.in-Ok.ensures, c.in-Some.ensures, c.in-Some-checked_add.ensures, c.loop-block.invariant)
