use Rattle.c_directives.proofs.Rescanned.{directives_rescanned}
use Rattle.c_directives.proofs.directives_are_rescanned.Goals as goal

pub returns : goal.returns
returns c = directives_rescanned
