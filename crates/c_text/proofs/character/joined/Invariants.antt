use Rattle.std.proofs.Common.{◌≡◌, ◌++◌, false, length}
use Rattle.c_text.specs.Characters.{characters, joined}
use Rattle.c_text.proofs.character.joined.Given as goal

abbrev pub invariant-loop-first : goal.invariant-loop-first
invariant-loop-first l = l.joined.items ++ joined l.in_splice l.rest ≡ joined false (characters 0 1 1 l.bytes)

abbrev pub decreases-loop-first : goal.decreases-loop-first
decreases-loop-first l = length l.rest
