use Rattle.f_grammar.proofs.Again.{expr_again}
use Rattle.f_grammar.proofs.laws.what_fits_is_read.Goals as goal

pub returns : goal.returns
returns c = expr_again
