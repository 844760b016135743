use Rattle.f_spelling_laws.proofs.Whole.{units}
use Rattle.f_spelling_laws.proofs.laws.lexemes_are_the_statements.Goals as goal

pub returns : goal.returns
returns c = units
