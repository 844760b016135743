use Rattle.behaviour.proofs.Later.{extends_at}
use Rattle.behaviour.proofs.a_greater_bound_extends.Goals as goal

pub returns : goal.returns
returns c = extends_at
