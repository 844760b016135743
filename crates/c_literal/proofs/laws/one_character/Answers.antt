use Rattle.c_literal.proofs.Strings.{one_character as law}
use Rattle.c_literal.proofs.laws.one_character.Goals as goal

pub returns : goal.returns
returns c = law
