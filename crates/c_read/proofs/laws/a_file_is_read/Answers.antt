use Rattle.c_read.proofs.Whole.{file_is_read}
use Rattle.c_read.proofs.laws.a_file_is_read.Goals as goal

pub returns : goal.returns
returns c = file_is_read
