use Rattle.c_unit_grammar.proofs.File.{one_external}
use Rattle.c_unit_grammar.proofs.laws.one_external_tree.Goals as goal

pub returns : goal.returns
returns c = one_external
