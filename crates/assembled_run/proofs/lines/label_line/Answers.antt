use Rattle.assembled_run.proofs.Laws.{label_stays}
use Rattle.assembled_run.proofs.lines.label_line.Goals as goal

pub returns : goal.returns
returns c = label_stays
