use Rattle.c_form.proofs.Read.{between_is, between_isnt}
use Rattle.c_form.proofs.forms.between.Goals as goal

pub returns-in-None : goal.returns-in-None
returns-in-None c = between_isnt c.args.quote c.args.spelling.now c.in-None.ensures

pub returns-in-Some : goal.returns-in-Some
returns-in-Some c = between_is c.args.quote c.args.spelling.now c.in-Some.content.now c.in-Some.ensures
