use Rattle.flat_routines.proofs.Gather.{gathers}
use Rattle.flat_routines.proofs.laws.gather_gathers.Goals as goal

pub returns : goal.returns
returns c = gathers
