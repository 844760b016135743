use Rattle.f_file_read.proofs.Whole.{file_is_read}
use Rattle.f_file_read.proofs.laws.statements_of_a_file_are_read.Goals as goal

pub returns : goal.returns
returns c = file_is_read
