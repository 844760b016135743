use Rattle.first_meaning.proofs.Facts.{counted}
use Rattle.first_meaning.proofs.units_are_counted.Goals as goal

pub returns : goal.returns
returns c = counted
