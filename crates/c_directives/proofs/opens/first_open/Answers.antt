use Rattle.std.proofs.Common.{sym}
use Rattle.c_directives.proofs.Steps.{first_opened}
use Rattle.c_directives.proofs.opens.first_open.Goals as goal

pub returns-in-Some : goal.returns-in-Some
returns-in-Some c = sym (first_opened c.args.opens.now c.in-Some.open.now (sym c.in-Some.ensures.value))
