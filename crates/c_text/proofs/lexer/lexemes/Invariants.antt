use Rattle.std.proofs.Common.{length}
use Rattle.c_text.specs.Source.{lexemes_in}
use Rattle.c_text.proofs.Cuts.{Goes}
use Rattle.c_text.proofs.lexer.lexemes.Given as goal

abbrev pub invariant-pieces : goal.invariant-pieces
invariant-pieces l = Goes l.lexemes.items l.after_blank l.rest (lexemes_in l.bytes)

abbrev pub decreases-pieces : goal.decreases-pieces
decreases-pieces l = length l.rest
