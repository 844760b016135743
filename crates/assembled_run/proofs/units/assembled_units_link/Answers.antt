use Rattle.assembled_run.proofs.Linkable.{linkable}
use Rattle.assembled_run.proofs.units.assembled_units_link.Goals as goal

pub returns : goal.returns
returns c = linkable
