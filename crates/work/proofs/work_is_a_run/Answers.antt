use Rattle.work.proofs.Depth.{is_run}
use Rattle.work.proofs.work_is_a_run.Goals as goal

pub returns : goal.returns
returns g c = is_run
