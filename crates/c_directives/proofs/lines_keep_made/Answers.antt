use Rattle.c_directives.proofs.Making.{lines_keep}
use Rattle.c_directives.proofs.lines_keep_made.Goals as goal

pub returns : goal.returns
returns c = lines_keep
