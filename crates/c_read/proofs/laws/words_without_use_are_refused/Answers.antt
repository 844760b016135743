use Rattle.c_read.proofs.Whole.{unused_refused}
use Rattle.c_read.proofs.laws.words_without_use_are_refused.Goals as goal

pub returns : goal.returns
returns c = unused_refused
