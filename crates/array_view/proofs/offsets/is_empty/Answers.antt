use Rattle.std.proofs.Common.{rules, FitsSigned, to_z, of_z, w64, sym, arith}
use Rattle.std.specs.Int.{w128}
use Rattle.std.proofs.lemmas.Int.{ints}
use Rattle.array_view.proofs.Counting.{past_as}
use Rattle.array_view.proofs.offsets.is_empty.Goals as goal

pub returns-in-Triplet : goal.returns-in-Triplet
returns-in-Triplet c =
    let f : FitsSigned w64 c.in-Triplet.first = search rules in
    let l : FitsSigned w64 c.in-Triplet.last = search rules in
    let s : FitsSigned w64 c.in-Triplet.stride = search rules in
    rw (c.in-Triplet.is) (sym (past_as c.is_past.result c.in-Triplet.last c.in-Triplet.stride c.in-Triplet.first (to_z w64 (of_z w64 c.in-Triplet.last)) (to_z w64 (of_z w64 c.in-Triplet.stride)) (to_z w128 (of_z w128 c.from.result)) c.is_past.ensures (omega (arith, ints)) (omega (arith, ints)) (omega (arith, ints))))
