use Rattle.std.proofs.Common.{◌≡◌, ◌+◌, ◌≤◌, drop}
use Rattle.f_lex.specs.Rules.{advanced}
use Rattle.f_lex.proofs.reader.advanced.Given as goal

abbrev pub invariant-loop-byte : goal.invariant-loop-byte
invariant-loop-byte l = record {
  value : advanced (record { line = l.line; column = l.column }) (drop l.byte-index l.bytes) ≡ advanced l.fn.point l.bytes;
  line : l.line ≤ l.fn.point.line + l.byte-index;
  column : l.column ≤ l.fn.point.column + l.byte-index;
  first : 1 ≤ l.column;
}
