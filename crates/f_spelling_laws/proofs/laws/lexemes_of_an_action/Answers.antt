use Rattle.f_spelling_laws.proofs.Actions.{action_spelled}
use Rattle.f_spelling_laws.proofs.laws.lexemes_of_an_action.Goals as goal

pub returns : goal.returns
returns c = action_spelled
