use Rattle.std.proofs.Common.{◌≡◌, drop}
use Rattle.emitted_code.specs.Frames.{most_words}
use Rattle.back_end.proofs.tests.room.most_words.Given as goal

abbrev pub invariant-loop-i : goal.invariant-loop-i
invariant-loop-i l = l.most ≡ most_words (drop l.i l.insns)
