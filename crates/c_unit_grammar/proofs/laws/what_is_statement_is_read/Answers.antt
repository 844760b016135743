use Rattle.c_unit_grammar.proofs.File.{statement_again}
use Rattle.c_unit_grammar.proofs.laws.what_is_statement_is_read.Goals as goal

pub returns : goal.returns
returns c = statement_again
