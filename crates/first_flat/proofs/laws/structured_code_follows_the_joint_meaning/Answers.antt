use Rattle.first_flat.proofs.Sheds.{followed}
use Rattle.first_flat.proofs.laws.structured_code_follows_the_joint_meaning.Goals as goal

pub returns : goal.returns
returns c = followed
