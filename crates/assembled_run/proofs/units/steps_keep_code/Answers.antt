use Rattle.assembled_run.proofs.Laws.{keeps_code}
use Rattle.assembled_run.proofs.units.steps_keep_code.Goals as goal

pub returns : goal.returns
returns c = keeps_code
