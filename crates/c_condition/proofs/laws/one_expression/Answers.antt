use Rattle.c_condition.proofs.Whole.{one_expression as law}
use Rattle.c_condition.proofs.laws.one_expression.Goals as goal

pub returns : goal.returns
returns c = law
