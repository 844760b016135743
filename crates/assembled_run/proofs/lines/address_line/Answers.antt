use Rattle.assembled_run.proofs.Laws.{address_leads}
use Rattle.assembled_run.proofs.lines.address_line.Goals as goal

pub returns : goal.returns
returns c = address_leads
