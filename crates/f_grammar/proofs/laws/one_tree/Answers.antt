use Rattle.f_grammar.proofs.Again.{one_spelling}
use Rattle.f_grammar.proofs.laws.one_tree.Goals as goal

pub returns : goal.returns
returns c = one_spelling
