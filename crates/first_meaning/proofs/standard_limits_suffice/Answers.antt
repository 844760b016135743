use Rattle.first_meaning.proofs.Facts.{fits}
use Rattle.first_meaning.proofs.standard_limits_suffice.Goals as goal

pub returns : goal.returns
returns c = fits
