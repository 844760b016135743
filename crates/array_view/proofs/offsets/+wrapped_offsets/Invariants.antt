use Rattle.std.proofs.Common.{length}
use Rattle.array_view.proofs.offsets.+wrapped_offsets.Given as goal

abbrev pub decreases-wrapped_offsets : goal.decreases-wrapped_offsets
decreases-wrapped_offsets l = length l.dims.now
