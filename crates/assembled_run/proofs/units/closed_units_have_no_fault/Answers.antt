use Rattle.assembled_run.proofs.Closed.{closed_link}
use Rattle.assembled_run.proofs.units.closed_units_have_no_fault.Goals as goal

pub returns : goal.returns
returns c = closed_link
