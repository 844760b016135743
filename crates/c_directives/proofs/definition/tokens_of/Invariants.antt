use Rattle.std.proofs.Common.{◌≡◌, length}
use Rattle.c_directives.specs.Directives.{tokens_of}
use Rattle.c_directives.proofs.Steps.{behind}
use Rattle.c_directives.proofs.definition.tokens_of.Given as goal

abbrev pub invariant-lexemes : goal.invariant-lexemes
invariant-lexemes l = behind l.tokens.items (tokens_of l.rest) ≡ tokens_of l.lexemes

abbrev pub decreases-lexemes : goal.decreases-lexemes
decreases-lexemes l = length l.rest
