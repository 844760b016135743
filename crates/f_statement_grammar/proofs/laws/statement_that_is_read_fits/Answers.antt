use Rattle.f_statement_grammar.proofs.StatementLaws.{statement_sound}
use Rattle.f_statement_grammar.proofs.laws.statement_that_is_read_fits.Goals as goal

pub returns : goal.returns
returns c = statement_sound
