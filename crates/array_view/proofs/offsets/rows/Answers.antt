use Rattle.std.proofs.Common.{rules, ◌++◌, map, get_or, ℤ, pos, FitsSigned, w64, ap, ◌∙◌, arith}
use Rattle.std.proofs.lemmas.Int.{to_z-of_z}
use Rattle.array_view.specs.Elements.{moved_in_64_bits}
use Rattle.array_view.proofs.Rows.{rows_all, rows_more}
use Rattle.array_view.proofs.offsets.rows.Goals as goal

pub loop-offset-preserved : goal.loop-offset-preserved
loop-offset-preserved c =
    let f : FitsSigned w64 (get_or c.args.offsets.now c.loop-offset.offset-index (pos 0)) = search rules in
    rows_more c.args.dim.now c.args.ks.now c.args.offsets.now c.loop-offset.out.items c.push_row.new.out.items c.loop-offset.offset-index (pos 0) (omega arith) c.loop-offset.invariant (c.in_ok-push_row.ensures ∙ ap (λ (o : ℤ). c.loop-offset.out.items ++ map (moved_in_64_bits c.args.dim.now o) c.args.ks.now) (to_z-of_z w64 (get_or c.args.offsets.now c.loop-offset.offset-index (pos 0)) f))

pub returns : goal.returns
returns c = rows_all c.args.dim.now c.args.ks.now c.args.offsets.now c.loop-offset.out.items c.loop-offset.offset-index (omega arith) c.loop-offset.invariant
