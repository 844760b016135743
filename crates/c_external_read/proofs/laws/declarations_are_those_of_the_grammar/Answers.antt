use Rattle.std.proofs.Common.{length}
use Rattle.c_external_read.proofs.Files.{agree}
use Rattle.c_external_read.proofs.laws.declarations_are_those_of_the_grammar.Goals as goal

pub returns : goal.returns
returns c = λ n s ts. agree n (length ts) s ts
