use Rattle.f_spelling_laws.proofs.Whole.{specifications}
use Rattle.f_spelling_laws.proofs.laws.lexemes_of_a_specification.Goals as goal

pub returns : goal.returns
returns c = specifications
