use Rattle.std.proofs.Common.{rules, ◌≡◌, ◌*ℤ◌, get_or, ℤ, pos, FitsSigned, to_z, of_z, w64, ap, ◌∙◌, arith, lit<, ◌^◌}
use Rattle.std.specs.Int.{w128}
use Rattle.std.proofs.lemmas.Int.{ints, to_z-of_z, fits_signed_mul}
use Rattle.array_view.proofs.Packed.{packed_at}
use Rattle.array_view.proofs.Remainders.{abs_fits}
use Rattle.array_view.specs.declared.axes.AxisDim.{AxisDim}
use Rattle.array_view.proofs.contiguous.+is_packed.Goals as goal

pub returns-then-from-len : goal.returns-then-from-len
returns-then-from-len t c =
    let z : AxisDim = record { lower = pos 0; extent = pos 0; sm = pos 0 } in
    let f : FitsSigned w64 (get_or c.args.dims.now 0 z).sm = search rules in
    let g : FitsSigned w64 (get_or c.args.dims.now 0 z).extent = search rules in
    let x : to_z w128 (of_z w128 c.from-then-from-len.result) ≡ (get_or c.args.dims.now 0 z).sm = omega (arith, ints) in
    let y : to_z w128 (of_z w128 c.from-then-from-len-2.result) ≡ (get_or c.args.dims.now 0 z).extent = omega (arith, ints) in
    let p : FitsSigned w128 ((get_or c.args.dims.now 0 z).sm *ℤ (get_or c.args.dims.now 0 z).extent) = fits_signed_mul w128 (get_or c.args.dims.now 0 z).sm (get_or c.args.dims.now 0 z).extent (2 ^ 63) (2 ^ 63) (abs_fits (get_or c.args.dims.now 0 z).sm f) (abs_fits (get_or c.args.dims.now 0 z).extent g) (lit< tt) in
    let k : to_z w128 (of_z w128 (to_z w128 (of_z w128 c.from-then-from-len.result) *ℤ to_z w128 (of_z w128 c.from-then-from-len-2.result))) ≡ (get_or c.args.dims.now 0 z).sm *ℤ (get_or c.args.dims.now 0 z).extent =
    ap (λ (q : ℤ). to_z w128 (of_z w128 (q *ℤ to_z w128 (of_z w128 c.from-then-from-len-2.result)))) x
    ∙ ap (λ (q : ℤ). to_z w128 (of_z w128 ((get_or c.args.dims.now 0 z).sm *ℤ q))) y
    ∙ to_z-of_z w128 ((get_or c.args.dims.now 0 z).sm *ℤ (get_or c.args.dims.now 0 z).extent) p in
    c.is_packed-then-from-len.ensures ∙ packed_at c.args.dims.now z c.args.len (to_z w128 (of_z w128 (to_z w128 (of_z w128 c.from-then-from-len.result) *ℤ to_z w128 (of_z w128 c.from-then-from-len-2.result)))) c.in-len1-up.len_at_least (λ e. absurd (omega (arith, ints))) (omega (arith, ints)) k
