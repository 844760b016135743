use Rattle.c_macros.proofs.Functional.{expands}
use Rattle.c_macros.proofs.expansion_is_there.Goals as goal

pub returns : goal.returns
returns c = expands
