use Rattle.emitted_units.proofs.Units.{units_within}
use Rattle.emitted_units.proofs.laws.units_stay_within.Goals as goal

pub returns : goal.returns
returns c = units_within
