use Rattle.behaviour.proofs.Composes.{wider}
use Rattle.behaviour.proofs.a_greater_number_allows.Goals as goal

pub returns : goal.returns
returns c = wider
