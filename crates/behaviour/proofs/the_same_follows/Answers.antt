use Rattle.behaviour.proofs.Composes.{same_follows}
use Rattle.behaviour.proofs.the_same_follows.Goals as goal

pub returns : goal.returns
returns c = same_follows
