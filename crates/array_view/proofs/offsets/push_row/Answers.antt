use Rattle.std.proofs.Common.{rules, ◌≡◌, get_or, pos, FitsSigned, to_z, of_z, w64, ap, ◌∙◌, arith}
use Rattle.std.proofs.lemmas.Int.{ints, to_z-of_z}
use Rattle.array_view.specs.Elements.{moved_in_64_bits}
use Rattle.array_view.proofs.Rows.{row_more, row_all}
use Rattle.array_view.proofs.offsets.push_row.Goals as goal

pub loop-k-preserved : goal.loop-k-preserved
loop-k-preserved c =
    let f : FitsSigned w64 (get_or c.args.ks.now c.loop-k.k-index (pos 0)) = search rules in
    let g : to_z w64 (of_z w64 c.moved.result) ≡ c.moved.result = omega (arith, ints) in
    row_more c.args.dim.now (to_z w64 (of_z w64 c.args.offset)) c.args.ks.now c.args.out.now.items c.loop-k.out.items c.push.new.self.items c.loop-k.k-index (to_z w64 (of_z w64 c.moved.result)) (pos 0) (omega arith) c.loop-k.invariant c.in_ok-push.ensures.items (g ∙ c.moved.ensures ∙ ap (moved_in_64_bits c.args.dim.now (to_z w64 (of_z w64 c.args.offset))) (to_z-of_z w64 (get_or c.args.ks.now c.loop-k.k-index (pos 0)) f))

pub returns : goal.returns
returns c = row_all c.args.dim.now (to_z w64 (of_z w64 c.args.offset)) c.args.offset c.args.ks.now c.args.out.now.items c.loop-k.out.items c.loop-k.k-index (omega (arith, ints)) (omega arith) c.loop-k.invariant
