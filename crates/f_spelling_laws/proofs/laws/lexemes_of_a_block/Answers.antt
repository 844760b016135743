use Rattle.f_spelling_laws.proofs.Whole.{blocks}
use Rattle.f_spelling_laws.proofs.laws.lexemes_of_a_block.Goals as goal

pub returns : goal.returns
returns c = blocks
