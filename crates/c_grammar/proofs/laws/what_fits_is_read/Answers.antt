use Rattle.c_grammar.proofs.Again.{level_again}
use Rattle.c_grammar.proofs.laws.what_fits_is_read.Goals as goal

pub returns : goal.returns
returns c = λ n h s e rest f stop. level_again e n h s rest f stop
