use Rattle.c_macros.proofs.Functional.{only_expansion}
use Rattle.c_macros.proofs.expansion_is_one.Goals as goal

pub returns : goal.returns
returns c = only_expansion
