use Rattle.c_read.proofs.Whole.{file_broken}
use Rattle.c_read.proofs.laws.where_a_file_is_broken.Goals as goal

pub returns : goal.returns
returns c = file_broken
