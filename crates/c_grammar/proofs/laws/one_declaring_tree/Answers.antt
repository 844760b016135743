use Rattle.c_grammar.proofs.OneTree.{one_declaring}
use Rattle.c_grammar.proofs.laws.one_declaring_tree.Goals as goal

pub returns : goal.returns
returns c = one_declaring
