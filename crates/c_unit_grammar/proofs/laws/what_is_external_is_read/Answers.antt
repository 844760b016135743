use Rattle.c_unit_grammar.proofs.Again.{ext_again}
use Rattle.c_unit_grammar.proofs.laws.what_is_external_is_read.Goals as goal

pub returns : goal.returns
returns c = λ n s x rest f. ext_again x n s rest f
