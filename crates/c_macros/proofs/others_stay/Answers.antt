use Rattle.c_macros.proofs.Functional.{expansion_stay}
use Rattle.c_macros.proofs.others_stay.Goals as goal

pub returns : goal.returns
returns c = expansion_stay
