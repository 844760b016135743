use Rattle.first_form.proofs.OneReading.{one_fortran}
use Rattle.first_form.proofs.laws.fortran_text_is_read_in_one_way.Goals as goal

pub returns : goal.returns
returns c = one_fortran
