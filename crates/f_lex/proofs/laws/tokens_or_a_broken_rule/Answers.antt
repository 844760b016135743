use Rattle.f_lex.proofs.WholeLaws.{list_or_rule}
use Rattle.f_lex.proofs.laws.tokens_or_a_broken_rule.Goals as goal

pub returns : goal.returns
returns c = list_or_rule
