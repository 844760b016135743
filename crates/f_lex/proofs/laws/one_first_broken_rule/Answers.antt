use Rattle.f_lex.proofs.WholeLaws.{one_rule}
use Rattle.f_lex.proofs.laws.one_first_broken_rule.Goals as goal

pub returns : goal.returns
returns c = one_rule
