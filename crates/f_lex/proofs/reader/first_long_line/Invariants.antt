use Rattle.std.proofs.Common.{◌≡◌, ◌+◌, ◌≤◌, None, length}
use Rattle.f_lex.specs.Rules.{least, long_lines}
use Rattle.f_lex.proofs.reader.first_long_line.Given as goal

abbrev pub invariant-loop-byte : goal.invariant-loop-byte
invariant-loop-byte l = record {
  value : least l.first (long_lines l.line l.characters l.rest) ≡ least None (long_lines 1 0 l.fn.bytes);
  line : l.line + length l.rest ≤ 1 + length l.fn.bytes;
  characters : l.characters + length l.rest ≤ length l.fn.bytes;
}

abbrev pub decreases-loop-byte : goal.decreases-loop-byte
decreases-loop-byte l = length l.rest
