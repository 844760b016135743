use Rattle.work.proofs.Sheds.{sheds_follows}
use Rattle.work.proofs.shedding_at_each_depth_follows.Goals as goal

pub returns : goal.returns
returns c = sheds_follows
