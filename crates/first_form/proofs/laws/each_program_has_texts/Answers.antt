use Rattle.first_form.proofs.PlainLines.{fortran_is_read, c_is_read, one_line_is_read}
use Rattle.first_form.proofs.laws.each_program_has_texts.Goals as goal

pub returns : goal.returns
returns c = λ name label calls puts is_name is_label are_calls are_puts.
    (fortran_is_read name label calls is_name is_label are_calls, c_is_read label puts is_label.word are_puts, one_line_is_read label puts is_label.word are_puts)
