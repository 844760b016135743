use Rattle.work.proofs.Same.{same_follows}
use Rattle.work.proofs.the_same_at_each_depth_follows.Goals as goal

pub returns : goal.returns
returns c = same_follows
