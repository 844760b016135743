use Rattle.c_directives.proofs.Rescanned.{texts_rescanned}
use Rattle.c_directives.proofs.texts_are_rescanned.Goals as goal

pub returns : goal.returns
returns c = texts_rescanned
