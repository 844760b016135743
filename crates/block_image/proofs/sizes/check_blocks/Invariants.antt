use Rattle.std.proofs.Common.{drop}
use Rattle.emitted_units.specs.Sizes.{BlocksHeld}
use Rattle.block_image.proofs.sizes.check_blocks.Given as goal

abbrev pub invariant-loop-i : goal.invariant-loop-i
invariant-loop-i l = BlocksHeld (drop l.i l.blocks)
