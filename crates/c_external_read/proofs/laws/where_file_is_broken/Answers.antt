use Rattle.std.proofs.Common.{length, arith}
use Rattle.c_external_read.proofs.Files.{breaks}
use Rattle.c_external_read.proofs.laws.where_file_is_broken.Goals as goal

pub returns : goal.returns
returns c = λ n s ts b. breaks n (length ts) s ts b (omega arith)
