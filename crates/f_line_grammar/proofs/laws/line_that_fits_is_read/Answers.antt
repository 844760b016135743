use Rattle.f_line_grammar.proofs.LineAgain.{line_again}
use Rattle.f_line_grammar.proofs.laws.line_that_fits_is_read.Goals as goal

pub returns : goal.returns
returns c = line_again
