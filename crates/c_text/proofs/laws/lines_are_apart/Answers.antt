use Rattle.c_text.proofs.Apart.{lines_apart}
use Rattle.c_text.proofs.laws.lines_are_apart.Goals as goal

pub returns : goal.returns
returns c = lines_apart
