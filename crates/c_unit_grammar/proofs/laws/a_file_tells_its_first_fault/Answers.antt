use Rattle.std.proofs.Common.{length, arith}
use Rattle.c_unit_grammar.proofs.File.{tells}
use Rattle.c_unit_grammar.proofs.laws.a_file_tells_its_first_fault.Goals as goal

pub returns : goal.returns
returns c = λ n s ts. tells n (length ts) s ts (omega arith)
