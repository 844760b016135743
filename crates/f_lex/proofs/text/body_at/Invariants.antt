use Rattle.std.proofs.Common.{◌+◌, ◌≤◌, [], length}
use Rattle.f_lex.specs.Texts.{body_at}
use Rattle.f_lex.proofs.Lengths.{Comes}
use Rattle.f_lex.proofs.text.body_at.Given as goal

abbrev pub invariant-parts : goal.invariant-parts
invariant-parts l = record {
  comes : Comes l.quote l.content l.passed l.rest (body_at (length l.bytes + 1) l.quote [] 0 l.bytes);
  room : l.passed + length l.rest ≤ length l.bytes;
}

abbrev pub decreases-parts : goal.decreases-parts
decreases-parts l = length l.rest
