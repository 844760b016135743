use Rattle.std.proofs.Common.{◌≡◌, ◌++◌, pos, ◌≤ℤ◌, ◌<ℤ◌}
use Rattle.array_view.specs.Subscripts.{triplet_count, steps_from}
use Rattle.array_view.proofs.triplet.triplet.Given as goal

abbrev pub invariant-loop-ks : goal.invariant-loop-ks
invariant-loop-ks l =
    (l.ks.items ++ steps_from l.k l.stride (triplet_count l.k l.last l.stride) ≡ steps_from l.first l.stride (triplet_count l.first l.last l.stride))
    × ((pos 0 ≤ℤ l.stride) → (l.first ≤ℤ l.k))
    × ((l.stride <ℤ pos 0) → (l.k ≤ℤ l.first))

abbrev pub decreases-loop-ks : goal.decreases-loop-ks
decreases-loop-ks l = triplet_count l.k l.last l.stride
