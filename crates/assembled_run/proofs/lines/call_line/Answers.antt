use Rattle.assembled_run.proofs.Laws.{call_leads}
use Rattle.assembled_run.proofs.lines.call_line.Goals as goal

pub returns : goal.returns
returns c = call_leads
