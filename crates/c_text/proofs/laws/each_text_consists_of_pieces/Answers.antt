use Rattle.std.proofs.Common.{length, arith}
use Rattle.c_text.proofs.WholeLaws.{all_pieces}
use Rattle.c_text.proofs.laws.each_text_consists_of_pieces.Goals as goal

pub returns : goal.returns
returns c = λ text. let p = all_pieces (length text) text (omega arith) in (p.shapes, p.consists)
