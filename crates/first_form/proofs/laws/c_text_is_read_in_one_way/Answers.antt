use Rattle.first_form.proofs.OneReading.{one_c}
use Rattle.first_form.proofs.laws.c_text_is_read_in_one_way.Goals as goal

pub returns : goal.returns
returns c = one_c
