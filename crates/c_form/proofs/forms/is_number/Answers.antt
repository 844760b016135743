use Rattle.std.proofs.Common.{sym}
use Rattle.c_form.proofs.Read.{number_is, number_isnt}
use Rattle.c_form.proofs.forms.is_number.Goals as goal

pub returns-in-None : goal.returns-in-None
returns-in-None c = sym (number_isnt c.args.spelling.now c.in-None.ensures)

pub returns-in-Some : goal.returns-in-Some
returns-in-Some c = sym (number_is c.args.spelling.now c.in-Some.field-0 c.in-Some.ensures)
