use Rattle.f_grammar.proofs.ActionAgain.{one_spelled}
use Rattle.f_grammar.proofs.laws.one_action.Goals as goal

pub returns : goal.returns
returns c = one_spelled
