use Rattle.f_spelling_laws.proofs.PlainUnits.{plain_are_told}
use Rattle.f_spelling_laws.proofs.laws.plain_units_are_told.Goals as goal

pub returns : goal.returns
returns c = plain_are_told
