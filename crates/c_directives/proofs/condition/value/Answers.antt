use Rattle.std.proofs.Common.{sym}
use Rattle.c_directives.proofs.Values.{value_is, value_isnt}
use Rattle.c_directives.proofs.condition.value.Goals as goal

pub returns-in-None : goal.returns-in-None
returns-in-None c = sym (value_isnt c.args.tokens.now c.in-None.ensures)

pub returns-in-Some : goal.returns-in-Some
returns-in-Some c = sym (value_is c.args.tokens.now c.in-Some.value c.in-Some.ensures)
