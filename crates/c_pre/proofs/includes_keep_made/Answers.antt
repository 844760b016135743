use Rattle.c_pre.proofs.Making.{keep_include}
use Rattle.c_pre.proofs.includes_keep_made.Goals as goal

pub returns : goal.returns
returns c = keep_include
