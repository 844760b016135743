use Rattle.f_grammar.proofs.Again.{type_again}
use Rattle.f_grammar.proofs.laws.type_that_fits_is_read.Goals as goal

pub returns : goal.returns
returns c = λ n t rest f s. type_again t n rest f s
