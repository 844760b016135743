use Rattle.flat_routines.proofs.Counting.{counts}
use Rattle.flat_routines.proofs.laws.count_elements_counts.Goals as goal

pub returns : goal.returns
returns c = counts
