use Rattle.first_meaning.proofs.Facts.{takes_none}
use Rattle.first_meaning.proofs.no_byte_is_taken.Goals as goal

pub returns : goal.returns
returns c = takes_none
