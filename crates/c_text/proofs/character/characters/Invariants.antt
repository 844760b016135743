use Rattle.std.proofs.Common.{◌≡◌, ◌≤◌, ◌+◌, ◌++◌, length}
use Rattle.c_text.specs.Characters.{characters}
use Rattle.c_text.proofs.character.characters.Given as goal

abbrev pub invariant-loop-first : goal.invariant-loop-first
invariant-loop-first l = record {
  so : l.characters.items ++ characters l.skipped l.line l.column l.rest ≡ characters 0 1 1 l.bytes;
  line : l.line + length l.rest ≤ length l.bytes + 1;
  column : l.column + length l.rest ≤ length l.bytes + 1;
}

abbrev pub decreases-loop-first : goal.decreases-loop-first
decreases-loop-first l = length l.rest
