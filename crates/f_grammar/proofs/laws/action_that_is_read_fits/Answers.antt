use Rattle.f_grammar.proofs.ActionSound.{act_sound}
use Rattle.f_grammar.proofs.laws.action_that_is_read_fits.Goals as goal

pub returns : goal.returns
returns c = act_sound
