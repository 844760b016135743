use Rattle.f_grammar.proofs.Again.{refer_again}
use Rattle.f_grammar.proofs.laws.reference_that_fits_is_read.Goals as goal

pub returns : goal.returns
returns c = λ n r rest f s. refer_again r n rest f s
