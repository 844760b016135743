use Rattle.f_spelling_laws.proofs.Expressions.{types_spelled}
use Rattle.f_spelling_laws.proofs.laws.lexemes_of_a_type.Goals as goal

pub returns : goal.returns
returns c = types_spelled
