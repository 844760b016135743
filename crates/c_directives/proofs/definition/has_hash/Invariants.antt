use Rattle.std.proofs.Common.{◌≡◌, length}
use Rattle.c_directives.specs.Directives.{has_hash}
use Rattle.c_directives.proofs.definition.has_hash.Given as goal

abbrev pub invariant-lexemes : goal.invariant-lexemes
invariant-lexemes l = has_hash l.rest ≡ has_hash l.lexemes

abbrev pub decreases-lexemes : goal.decreases-lexemes
decreases-lexemes l = length l.rest
