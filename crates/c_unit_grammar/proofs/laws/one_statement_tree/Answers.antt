use Rattle.c_unit_grammar.proofs.File.{one_statement}
use Rattle.c_unit_grammar.proofs.laws.one_statement_tree.Goals as goal

pub returns : goal.returns
returns c = one_statement
