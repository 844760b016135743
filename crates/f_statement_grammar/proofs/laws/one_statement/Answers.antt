use Rattle.f_statement_grammar.proofs.StatementLaws.{one_spelled}
use Rattle.f_statement_grammar.proofs.laws.one_statement.Goals as goal

pub returns : goal.returns
returns c = one_spelled
