use Rattle.std.proofs.Common.{◌≡◌, true, false, FitsSigned, to_z, of_z, w64, arith}
use Rattle.std.specs.Int.{w128}
use Rattle.std.proofs.lemmas.Int.{ints}
use Rattle.array_view.specs.Subscripts.{is_past}
use Rattle.array_view.proofs.Counting.{count_smaller, steps_taken, steps_end, reach, past_as}
use Rattle.array_view.proofs.triplet.triplet.Goals as goal

pub loop-ks-smaller : goal.loop-ks-smaller
loop-ks-smaller c =
    let on : is_past c.args.last c.args.stride c.loop-ks.k ≡ false = past_as false c.args.last c.args.stride c.loop-ks.k (to_z w64 (of_z w64 c.args.last)) (to_z w64 (of_z w64 c.args.stride)) (to_z w128 c.loop-ks.k-bits) c.loop-ks-test.ensures (omega (arith, ints)) (omega (arith, ints)) (omega (arith, ints)) in
    let fits : FitsSigned w64 c.loop-ks.k = reach c.args.first c.args.last c.args.stride c.loop-ks.k c.ranges.first c.ranges.last (λ h. let g = c.loop-ks.invariant.1 (omega (arith, ints)) in omega (arith, ints)) (λ h. let g = c.loop-ks.invariant.2 (omega (arith, ints)) in omega (arith, ints)) on in
    count_smaller c.loop-ks.k c.args.last c.args.stride _ _ _ _ _ _ c.requires on (omega (arith, ints)) (omega (arith, ints)) (omega (arith, ints)) (omega (arith, ints)) (omega (arith, ints)) (omega (arith, ints))

pub loop-ks-preserved : goal.loop-ks-preserved
loop-ks-preserved c =
    let on : is_past c.args.last c.args.stride c.loop-ks.k ≡ false = past_as false c.args.last c.args.stride c.loop-ks.k (to_z w64 (of_z w64 c.args.last)) (to_z w64 (of_z w64 c.args.stride)) (to_z w128 c.loop-ks.k-bits) c.loop-ks-test.ensures (omega (arith, ints)) (omega (arith, ints)) (omega (arith, ints)) in
    let fits : FitsSigned w64 c.loop-ks.k = reach c.args.first c.args.last c.args.stride c.loop-ks.k c.ranges.first c.ranges.last (λ h. let g = c.loop-ks.invariant.1 (omega (arith, ints)) in omega (arith, ints)) (λ h. let g = c.loop-ks.invariant.2 (omega (arith, ints)) in omega (arith, ints)) on in (
      steps_taken c.loop-ks.ks.items c.push.new.self.items _ _ c.loop-ks.k c.args.last c.args.stride _ _ _ _ _ _ c.requires on c.loop-ks.invariant.0 c.in_ok-push.ensures.items (omega (arith, ints)) (omega (arith, ints)) (omega (arith, ints)) (omega (arith, ints)) (omega (arith, ints)) (omega (arith, ints)) (omega (arith, ints)),
      (λ h. let g = c.loop-ks.invariant.1 h in omega (arith, ints)),
      (λ h. let g = c.loop-ks.invariant.2 h in omega (arith, ints)),
    )

pub returns : goal.returns
returns c =
    let off : is_past c.args.last c.args.stride c.loop-ks.k ≡ true = past_as true c.args.last c.args.stride c.loop-ks.k (to_z w64 (of_z w64 c.args.last)) (to_z w64 (of_z w64 c.args.stride)) (to_z w128 c.loop-ks.k-bits) c.loop-ks-test.ensures (omega (arith, ints)) (omega (arith, ints)) (omega (arith, ints)) in
    steps_end c.loop-ks.ks.items c.loop-ks.k c.args.first c.args.last c.args.stride _ _ _ _ off c.loop-ks.invariant.0 (omega (arith, ints)) (omega (arith, ints)) (omega (arith, ints)) (omega (arith, ints))
