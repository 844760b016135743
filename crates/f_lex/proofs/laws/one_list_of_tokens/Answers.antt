use Rattle.f_lex.proofs.WholeLaws.{one_list}
use Rattle.f_lex.proofs.laws.one_list_of_tokens.Goals as goal

pub returns : goal.returns
returns c = one_list
