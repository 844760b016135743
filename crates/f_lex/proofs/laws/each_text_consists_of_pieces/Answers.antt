use Rattle.f_lex.proofs.WholeLaws.{consists}
use Rattle.f_lex.proofs.laws.each_text_consists_of_pieces.Goals as goal

pub returns : goal.returns
returns c = consists
