use Rattle.c_directives.proofs.Making.{texts_keep}
use Rattle.c_directives.proofs.texts_keep_made.Goals as goal

pub returns : goal.returns
returns c = texts_keep
