use Rattle.assembled_run.proofs.Laws.{plain_steps}
use Rattle.assembled_run.proofs.lines.plain_line.Goals as goal

pub returns : goal.returns
returns c = plain_steps
