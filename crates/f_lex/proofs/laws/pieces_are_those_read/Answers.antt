use Rattle.f_lex.proofs.WholeLaws.{read_cuts}
use Rattle.f_lex.proofs.laws.pieces_are_those_read.Goals as goal

pub returns : goal.returns
returns c = read_cuts
