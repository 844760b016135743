use Rattle.c_literal.proofs.Strings.{one_string as law}
use Rattle.c_literal.proofs.laws.one_string.Goals as goal

pub returns : goal.returns
returns c = law
