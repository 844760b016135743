use Rattle.assembled_run.proofs.Laws.{are_in_code}
use Rattle.assembled_run.proofs.lines.lines_in_code.Goals as goal

pub returns : goal.returns
returns c = are_in_code
