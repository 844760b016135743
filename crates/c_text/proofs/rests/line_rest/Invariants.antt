use Rattle.std.proofs.Common.{◌≡◌, length}
use Rattle.c_text.specs.Rests.{line_rest}
use Rattle.c_text.proofs.rests.line_rest.Given as goal

abbrev pub invariant-loop-first : goal.invariant-loop-first
invariant-loop-first l = line_rest l.rest ≡ line_rest l.text

abbrev pub decreases-loop-first : goal.decreases-loop-first
decreases-loop-first l = length l.rest
