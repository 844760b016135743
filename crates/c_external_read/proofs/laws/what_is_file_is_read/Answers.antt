use Rattle.c_external_read.proofs.Files.{is_externals}
use Rattle.c_external_read.proofs.laws.what_is_file_is_read.Goals as goal

pub returns : goal.returns
returns c = is_externals
