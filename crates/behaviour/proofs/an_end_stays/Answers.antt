use Rattle.behaviour.proofs.Later.{after_end_at}
use Rattle.behaviour.proofs.an_end_stays.Goals as goal

pub returns : goal.returns
returns c = after_end_at
