use Rattle.c_external_read.proofs.Files.{is_file}
use Rattle.c_external_read.proofs.laws.what_is_read_is_file.Goals as goal

pub returns : goal.returns
returns c = is_file
