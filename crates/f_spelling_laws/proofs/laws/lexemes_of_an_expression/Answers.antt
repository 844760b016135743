use Rattle.f_spelling_laws.proofs.Expressions.{expressions_spelled}
use Rattle.f_spelling_laws.proofs.laws.lexemes_of_an_expression.Goals as goal

pub returns : goal.returns
returns c = expressions_spelled
