use Rattle.std.proofs.Common.{◌≡◌, length}
use Rattle.c_grammar.specs.Reading.{texts_at}
use Rattle.c_expression_read.proofs.Runs.{before}
use Rattle.c_expression_read.proofs.run.texts.Given as goal

abbrev pub invariant-texts : goal.invariant-texts
invariant-texts l = before l.texts.items (texts_at l.rest) ≡ texts_at l.tokens

abbrev pub decreases-texts : goal.decreases-texts
decreases-texts l = length l.rest
