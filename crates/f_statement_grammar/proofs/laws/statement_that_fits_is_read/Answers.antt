use Rattle.f_statement_grammar.proofs.StatementLaws.{statement_again}
use Rattle.f_statement_grammar.proofs.laws.statement_that_fits_is_read.Goals as goal

pub returns : goal.returns
returns c = statement_again
