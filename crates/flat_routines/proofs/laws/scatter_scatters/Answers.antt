use Rattle.flat_routines.proofs.Scatter.{scatters}
use Rattle.flat_routines.proofs.laws.scatter_scatters.Goals as goal

pub returns : goal.returns
returns c = scatters
