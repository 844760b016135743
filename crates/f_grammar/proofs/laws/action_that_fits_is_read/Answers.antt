use Rattle.f_grammar.proofs.ActionAgain.{act_again}
use Rattle.f_grammar.proofs.laws.action_that_fits_is_read.Goals as goal

pub returns : goal.returns
returns c = act_again
