use Rattle.std.proofs.Common.{◌≡◌, ◌+ℤ◌, ◌-ℤ◌, ◌≤ℤ◌, ◌^◌, pos, ℤ, to_z, of_z, w64, arith, ap, ◌∙◌, int_rem, unsigned_abs, ◌<◌}
use Rattle.std.specs.Int.{w128}
use Rattle.std.proofs.lemmas.Int.{ints, to_z-of_z, quot_fits}
use Rattle.array_view.proofs.Remainders.{abs_positive, rem-abs, rem_within}
use Rattle.array_view.proofs.bounds.final_subscript.Goals as goal

pub nonzero_rem-result : goal.nonzero_rem-result
nonzero_rem-result c =
    let p : 0 < unsigned_abs c.args.stride = abs_positive c.args.stride c.requires in
    let s : c.from-step.result ≡ pos (unsigned_abs c.args.stride) = c.from-step.ensures ∙ ap pos (c.unsigned_abs.ensures.value ∙ ap unsigned_abs (to_z-of_z w64 c.args.stride c.ranges.stride)) in (
      omega (arith, ints),
      quot_fits w128 (to_z w128 (of_z w128 (to_z w128 (of_z w128 c.from-last.result) -ℤ to_z w128 (of_z w128 c.from-first.result)))) (to_z w128 (of_z w128 c.from-step.result)) (omega (arith, ints)) (omega (arith, ints)),
    )

pub overflow_sub-result : goal.overflow_sub-result
overflow_sub-result c = omega (arith, ints)

pub overflow_sub-result-2 : goal.overflow_sub-result-2
overflow_sub-result-2 c =
    let s : c.from-step.result ≡ pos (unsigned_abs c.args.stride) = c.from-step.ensures ∙ ap pos (c.unsigned_abs.ensures.value ∙ ap unsigned_abs (to_z-of_z w64 c.args.stride c.ranges.stride)) in
    let y : to_z w128 (of_z w128 (to_z w128 (of_z w128 c.from-last.result) -ℤ to_z w128 (of_z w128 c.from-first.result))) ≡ c.args.last -ℤ c.args.first = omega (arith, ints) in
    let z : to_z w128 (of_z w128 c.from-step.result) ≡ pos (unsigned_abs c.args.stride) = omega (arith, ints) in
    let r : int_rem (to_z w128 (of_z w128 (to_z w128 (of_z w128 c.from-last.result) -ℤ to_z w128 (of_z w128 c.from-first.result)))) (to_z w128 (of_z w128 c.from-step.result)) ≡ int_rem (c.args.last -ℤ c.args.first) c.args.stride = ap (λ (v : ℤ). int_rem v (to_z w128 (of_z w128 c.from-step.result))) y ∙ ap (λ (v : ℤ). int_rem (c.args.last -ℤ c.args.first) v) z ∙ rem-abs (c.args.last -ℤ c.args.first) c.args.stride in
    let b : (int_rem (c.args.last -ℤ c.args.first) c.args.stride ≤ℤ pos (2 ^ 63)) × (pos 0 ≤ℤ (int_rem (c.args.last -ℤ c.args.first) c.args.stride +ℤ pos (2 ^ 63))) = rem_within (c.args.last -ℤ c.args.first) c.args.stride c.ranges.stride c.requires in
    omega (arith, ints)

pub returns : goal.returns
returns c =
    let s : c.from-step.result ≡ pos (unsigned_abs c.args.stride) = c.from-step.ensures ∙ ap pos (c.unsigned_abs.ensures.value ∙ ap unsigned_abs (to_z-of_z w64 c.args.stride c.ranges.stride)) in
    let y : to_z w128 (of_z w128 (to_z w128 (of_z w128 c.from-last.result) -ℤ to_z w128 (of_z w128 c.from-first.result))) ≡ c.args.last -ℤ c.args.first = omega (arith, ints) in
    let z : to_z w128 (of_z w128 c.from-step.result) ≡ pos (unsigned_abs c.args.stride) = omega (arith, ints) in
    let r : int_rem (to_z w128 (of_z w128 (to_z w128 (of_z w128 c.from-last.result) -ℤ to_z w128 (of_z w128 c.from-first.result)))) (to_z w128 (of_z w128 c.from-step.result)) ≡ int_rem (c.args.last -ℤ c.args.first) c.args.stride = ap (λ (v : ℤ). int_rem v (to_z w128 (of_z w128 c.from-step.result))) y ∙ ap (λ (v : ℤ). int_rem (c.args.last -ℤ c.args.first) v) z ∙ rem-abs (c.args.last -ℤ c.args.first) c.args.stride in
    let b : (int_rem (c.args.last -ℤ c.args.first) c.args.stride ≤ℤ pos (2 ^ 63)) × (pos 0 ≤ℤ (int_rem (c.args.last -ℤ c.args.first) c.args.stride +ℤ pos (2 ^ 63))) = rem_within (c.args.last -ℤ c.args.first) c.args.stride c.ranges.stride c.requires in
    omega (arith, ints)
