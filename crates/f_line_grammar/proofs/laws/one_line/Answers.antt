use Rattle.f_line_grammar.proofs.LineAgain.{one_spelled}
use Rattle.f_line_grammar.proofs.laws.one_line.Goals as goal

pub returns : goal.returns
returns c = one_spelled
