use Rattle.c_form.proofs.Read.{string_same}
use Rattle.c_form.proofs.forms.is_string.Goals as goal

pub returns : goal.returns
returns c = string_same c.args.content.now c.is_string_literal.result c.is_string_literal.ensures
