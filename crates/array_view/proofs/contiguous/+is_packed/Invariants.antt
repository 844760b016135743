use Rattle.std.proofs.Common.{length}
use Rattle.array_view.proofs.contiguous.+is_packed.Given as goal

abbrev pub decreases-is_packed : goal.decreases-is_packed
decreases-is_packed l = length l.dims.now
