use Rattle.std.proofs.Common.{◌≡◌, take}
use Rattle.block_homes.specs.Held.{total}
use Rattle.reg_alloc.proofs.verdict.count_insns.Given as goal

abbrev pub invariant-loop-block : goal.invariant-loop-block
invariant-loop-block l = l.sum ≡ total (take l.block-index l.block-items)
