use Rattle.assembled_run.proofs.Laws.{jump_leads}
use Rattle.assembled_run.proofs.lines.jump_line.Goals as goal

pub returns : goal.returns
returns c = jump_leads
