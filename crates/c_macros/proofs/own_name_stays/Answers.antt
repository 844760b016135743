use Rattle.c_macros.proofs.Functional.{own_name}
use Rattle.c_macros.proofs.own_name_stays.Goals as goal

pub returns : goal.returns
returns c = own_name
