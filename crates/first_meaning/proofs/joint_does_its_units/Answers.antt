use Rattle.first_meaning.proofs.Course.{units_seen}
use Rattle.first_meaning.proofs.joint_does_its_units.Goals as goal

pub returns : goal.returns
returns c = λ p limits h input n. units_seen p limits input h n
