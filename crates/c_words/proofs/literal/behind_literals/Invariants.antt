use Rattle.std.proofs.Common.{◌≡◌, length}
use Rattle.c_words.specs.Making.{behind_literals}
use Rattle.c_words.proofs.literal.behind_literals.Given as goal

abbrev pub invariant-literals : goal.invariant-literals
invariant-literals l = behind_literals l.rest ≡ behind_literals l.tokens

abbrev pub decreases-literals : goal.decreases-literals
decreases-literals l = length l.rest
