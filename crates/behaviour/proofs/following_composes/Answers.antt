use Rattle.behaviour.proofs.Composes.{compose}
use Rattle.behaviour.proofs.following_composes.Goals as goal

pub returns : goal.returns
returns c = compose
