use Rattle.std.proofs.Common.{◌+ℤ◌, to_z, of_z, arith}
use Rattle.std.specs.Int.{w128}
use Rattle.std.proofs.lemmas.Int.{ints}
use Rattle.array_view.proofs.Intervals.{in_axis_closed}
use Rattle.array_view.proofs.bounds.is_in_axis.Goals as goal

pub returns-else-open_ended : goal.returns-else-open_ended
returns-else-open_ended c = in_axis_closed c.args.dim.now c.args.open_ended c.args.k (to_z w128 (of_z w128 c.args.k)) (to_z w128 (of_z w128 (to_z w128 (of_z w128 c.from-lower.result) +ℤ to_z w128 (of_z w128 c.from.result)))) c.if-open_ended.false (omega (arith, ints)) (omega (arith, ints)) (omega (arith, ints))
