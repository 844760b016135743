use Rattle.emitted_units.proofs.Units.{units_closed}
use Rattle.emitted_units.proofs.laws.units_are_closed.Goals as goal

pub returns : goal.returns
returns c = units_closed
