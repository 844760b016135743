use Rattle.c_text.specs.Marks.{punctuators, mark_length}
use Rattle.c_text.proofs.Best.{longest_is}
use Rattle.c_text.proofs.laws.punctuators_are_longest.Goals as goal

pub returns : goal.returns
unfolding mark_length
returns c = longest_is punctuators
