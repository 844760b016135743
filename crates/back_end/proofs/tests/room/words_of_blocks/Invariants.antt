use Rattle.std.proofs.Common.{◌≡◌, drop}
use Rattle.emitted_code.specs.Frames.{words_of_blocks}
use Rattle.back_end.proofs.tests.room.words_of_blocks.Given as goal

abbrev pub invariant-loop-i : goal.invariant-loop-i
invariant-loop-i l = l.most ≡ words_of_blocks (drop l.i l.blocks)
