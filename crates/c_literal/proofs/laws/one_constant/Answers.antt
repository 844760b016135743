use Rattle.c_literal.proofs.IntegerLaws.{one_constant as law}
use Rattle.c_literal.proofs.laws.one_constant.Goals as goal

pub returns : goal.returns
returns c = law
