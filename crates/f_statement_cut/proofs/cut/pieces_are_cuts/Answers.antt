use Rattle.f_statement_cut.proofs.CutPieces.{cut_pieces}
use Rattle.f_statement_cut.proofs.cut.pieces_are_cuts.Goals as goal

pub returns : goal.returns
returns c = cut_pieces
