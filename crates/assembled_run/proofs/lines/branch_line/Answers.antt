use Rattle.assembled_run.proofs.Laws.{branch_leads}
use Rattle.assembled_run.proofs.lines.branch_line.Goals as goal

pub returns : goal.returns
returns c = branch_leads
