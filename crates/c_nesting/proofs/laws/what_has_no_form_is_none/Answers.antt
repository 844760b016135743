use Rattle.c_nesting.proofs.Forms.{none}
use Rattle.c_nesting.proofs.laws.what_has_no_form_is_none.Goals as goal

pub returns : goal.returns
returns c = none
