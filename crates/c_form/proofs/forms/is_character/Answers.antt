use Rattle.std.proofs.Common.{sym}
use Rattle.c_form.proofs.Read.{character_is, character_isnt}
use Rattle.c_form.proofs.forms.is_character.Goals as goal

pub returns-in-None : goal.returns-in-None
returns-in-None c = sym (character_isnt c.args.content.now c.in-None.ensures)

pub returns-in-Some : goal.returns-in-Some
returns-in-Some c = sym (character_is c.args.content.now c.in-Some.field-0 c.in-Some.ensures)
