use Rattle.std.proofs.Common.{◌≡◌, length}
use Rattle.c_text.specs.Rests.{word_rest}
use Rattle.c_text.proofs.rests.word_rest.Given as goal

abbrev pub invariant-loop-first : goal.invariant-loop-first
invariant-loop-first l = word_rest l.rest ≡ word_rest l.text

abbrev pub decreases-loop-first : goal.decreases-loop-first
decreases-loop-first l = length l.rest
