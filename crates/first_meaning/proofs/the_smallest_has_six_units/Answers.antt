use Rattle.std.proofs.Common.{refl}
use Rattle.first_meaning.proofs.Facts.{six}
use Rattle.first_meaning.proofs.the_smallest_has_six_units.Goals as goal

pub returns : goal.returns
returns c = record { units = λ label n. refl; ends = six }
