use Rattle.f_lex.proofs.WholeLaws.{not_both}
use Rattle.f_lex.proofs.laws.no_broken_rule_beside_tokens.Goals as goal

pub returns : goal.returns
returns c = not_both
