use Rattle.work.proofs.Settles.{settles}
use Rattle.work.proofs.a_cut_run_settles.Goals as goal

pub returns : goal.returns
returns g c = settles
