use Rattle.f_items.proofs.Single.{one_module}
use Rattle.f_items.proofs.laws.a_name_is_of_one_module.Goals as goal

pub returns : goal.returns
returns c = one_module
