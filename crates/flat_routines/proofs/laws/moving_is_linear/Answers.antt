use Rattle.flat_routines.proofs.Linear.{linear}
use Rattle.flat_routines.proofs.laws.moving_is_linear.Goals as goal

pub returns : goal.returns
returns c len rank n = linear len rank n
