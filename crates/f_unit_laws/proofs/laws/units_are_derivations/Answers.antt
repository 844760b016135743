use Rattle.f_unit_laws.proofs.Derived.{units_are_derivations}
use Rattle.f_unit_laws.proofs.laws.units_are_derivations.Goals as goal

pub returns : goal.returns
returns c = units_are_derivations
