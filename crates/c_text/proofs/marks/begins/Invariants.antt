use Rattle.std.proofs.Common.{◌≡◌, length}
use Rattle.c_text.specs.Marks.{begins}
use Rattle.c_text.proofs.marks.begins.Given as goal

abbrev pub invariant-loop-byte : goal.invariant-loop-byte
invariant-loop-byte l = begins l.marks l.rest ≡ begins l.mark l.text

abbrev pub decreases-loop-byte : goal.decreases-loop-byte
decreases-loop-byte l = length l.marks
