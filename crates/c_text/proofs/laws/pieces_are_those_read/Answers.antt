use Rattle.c_text.proofs.WholeLaws.{cuts_are}
use Rattle.c_text.proofs.laws.pieces_are_those_read.Goals as goal

pub returns : goal.returns
returns c = cuts_are
