use Rattle.first_meaning.proofs.Facts.{no_limit}
use Rattle.first_meaning.proofs.no_limit_is_met.Goals as goal

pub returns : goal.returns
returns c = no_limit
