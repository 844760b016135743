use Rattle.assembled_run.proofs.Laws.{begins}
use Rattle.assembled_run.proofs.units.runs_begin.Goals as goal

pub returns : goal.returns
returns c = begins
