use Rattle.std.proofs.Common.{length}
use Rattle.array_view.proofs.bounds.+are_designated.Given as goal

abbrev pub decreases-are_designated : goal.decreases-are_designated
decreases-are_designated l = length l.dims.now
