use Rattle.std.proofs.Common.{◌≡◌, false, length}
use Rattle.f_lex.specs.Lines.{next_line}
use Rattle.f_lex.proofs.lines.next_line.Given as goal

abbrev pub invariant-loop-tail : goal.invariant-loop-tail
invariant-loop-tail l = next_line l.in_comment l.rest ≡ next_line false l.fn.bytes

abbrev pub decreases-loop-tail : goal.decreases-loop-tail
decreases-loop-tail l = length l.rest
