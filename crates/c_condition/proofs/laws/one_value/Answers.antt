use Rattle.c_condition.proofs.Whole.{one_value as law}
use Rattle.c_condition.proofs.laws.one_value.Goals as goal

pub returns : goal.returns
returns c = law
