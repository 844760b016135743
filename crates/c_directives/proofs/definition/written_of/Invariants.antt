use Rattle.std.proofs.Common.{◌≡◌, map, take}
use Rattle.c_directives.specs.Directives.{written_token}
use Rattle.c_directives.proofs.definition.written_of.Given as goal

abbrev pub invariant-loop-lexeme : goal.invariant-loop-lexeme
invariant-loop-lexeme l = l.written.items ≡ map written_token (take l.lexeme-index l.lexemes)
