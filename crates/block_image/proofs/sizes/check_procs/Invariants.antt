use Rattle.std.proofs.Common.{drop}
use Rattle.emitted_units.specs.Sizes.{ProcsHeld}
use Rattle.block_image.proofs.sizes.check_procs.Given as goal

abbrev pub invariant-loop-i : goal.invariant-loop-i
invariant-loop-i l = ProcsHeld (drop l.i l.procs)
