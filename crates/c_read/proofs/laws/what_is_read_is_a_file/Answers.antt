use Rattle.c_read.proofs.Whole.{file_read}
use Rattle.c_read.proofs.laws.what_is_read_is_a_file.Goals as goal

pub returns : goal.returns
returns c = file_read
