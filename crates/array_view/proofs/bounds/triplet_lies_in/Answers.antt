use Rattle.std.proofs.Common.{◌≡◌, ◌-ℤ◌, true, false, ◌&&◌, FitsSigned, to_z, of_z, w64, arith, refl, int_rem}
use Rattle.std.specs.Int.{w128}
use Rattle.std.proofs.lemmas.Int.{ints, to_z-of_z}
use Rattle.std.specs.List.{list_all}
use Rattle.array_view.specs.Subscripts.{is_in_axis, steps_from, triplet_count}
use Rattle.array_view.proofs.Intervals.{ends_tell, none_tells, tell_both, tell_none}
use Rattle.array_view.proofs.Counting.{past_as}
use Rattle.array_view.proofs.bounds.triplet_lies_in.Goals as goal

pub returns-then-is_past : goal.returns-then-is_past
returns-then-is_past c = none_tells c.args.dim.now c.args.open_ended c.args.first c.args.last c.args.stride
    (past_as true c.args.last c.args.stride c.args.first (to_z w64 (of_z w64 c.args.last)) (to_z w64 (of_z w64 c.args.stride)) (to_z w128 (of_z w128 c.from.result)) c.if-is_past.ensures (omega (arith, ints)) (omega (arith, ints)) (omega (arith, ints)))

all_tell : (c : goal.After-is_in_axis-then-is_in_axis) → list_all (is_in_axis c.args.dim.now c.args.open_ended) (steps_from c.args.first c.args.stride (triplet_count c.args.first c.args.last c.args.stride)) ≡ (is_in_axis c.args.dim.now c.args.open_ended c.args.first && is_in_axis c.args.dim.now c.args.open_ended (c.args.last -ℤ int_rem (c.args.last -ℤ c.args.first) c.args.stride))
all_tell c =
    ends_tell c.args.dim.now c.args.open_ended c.args.first c.args.last c.args.stride (c.args.last -ℤ int_rem (c.args.last -ℤ c.args.first) c.args.stride) c.requires
    (past_as false c.args.last c.args.stride c.args.first (to_z w64 (of_z w64 c.args.last)) (to_z w64 (of_z w64 c.args.stride)) (to_z w128 (of_z w128 c.from.result)) c.if-is_past.ensures (omega (arith, ints)) (omega (arith, ints)) (omega (arith, ints)))
    refl

pub returns-then-is_in_axis : goal.returns-then-is_in_axis
returns-then-is_in_axis c =
    let p : FitsSigned w64 c.args.first = c.ranges.first in
    let q : FitsSigned w64 c.args.last = c.ranges.last in
    let s : FitsSigned w64 c.args.stride = c.ranges.stride in
    let f : c.final_subscript-final_one.result ≡ c.args.last -ℤ int_rem (c.args.last -ℤ c.args.first) c.args.stride = simp to_z-of_z at c.final_subscript-final_one.ensures in
    let all = all_tell c in
    tell_both c.args.dim.now c.args.open_ended c.args.first (c.args.last -ℤ int_rem (c.args.last -ℤ c.args.first) c.args.stride) (to_z w128 (of_z w128 c.from-2.result)) (to_z w128 (of_z w128 c.final_subscript-final_one.result)) _ _ all (omega (arith, ints)) (omega (arith, ints)) c.if-is_in_axis.ensures c.is_in_axis-then-is_in_axis.ensures

pub returns-else-is_in_axis : goal.returns-else-is_in_axis
returns-else-is_in_axis c =
    tell_none c.args.dim.now c.args.open_ended c.args.first (c.args.last -ℤ int_rem (c.args.last -ℤ c.args.first) c.args.stride) (to_z w128 (of_z w128 c.from-2.result)) _ _
    (ends_tell c.args.dim.now c.args.open_ended c.args.first c.args.last c.args.stride (c.args.last -ℤ int_rem (c.args.last -ℤ c.args.first) c.args.stride) c.requires
    (past_as false c.args.last c.args.stride c.args.first (to_z w64 (of_z w64 c.args.last)) (to_z w64 (of_z w64 c.args.stride)) (to_z w128 (of_z w128 c.from.result)) c.if-is_past.ensures (omega (arith, ints)) (omega (arith, ints)) (omega (arith, ints)))
    refl) (omega (arith, ints)) c.if-is_in_axis.ensures c.if-is_in_axis.false
