use Rattle.emitted_units.proofs.Units.{units_proper}
use Rattle.emitted_units.proofs.laws.units_are_proper.Goals as goal

pub returns : goal.returns
returns c = units_proper
