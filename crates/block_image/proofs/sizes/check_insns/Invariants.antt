use Rattle.std.proofs.Common.{drop}
use Rattle.emitted_units.specs.Sizes.{InsnsHeld}
use Rattle.block_image.proofs.sizes.check_insns.Given as goal

abbrev pub invariant-loop-i : goal.invariant-loop-i
invariant-loop-i l = InsnsHeld (drop l.i l.insns)
