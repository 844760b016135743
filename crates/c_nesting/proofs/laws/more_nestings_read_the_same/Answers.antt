use Rattle.c_nesting.proofs.Forms.{with_more}
use Rattle.c_nesting.proofs.laws.more_nestings_read_the_same.Goals as goal

pub returns : goal.returns
returns c = with_more
