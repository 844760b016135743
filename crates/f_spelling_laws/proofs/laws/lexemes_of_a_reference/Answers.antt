use Rattle.f_spelling_laws.proofs.Expressions.{references_spelled}
use Rattle.f_spelling_laws.proofs.laws.lexemes_of_a_reference.Goals as goal

pub returns : goal.returns
returns c = references_spelled
