use Rattle.std.proofs.Common.{length, refl, arith}
use Rattle.std.specs.Prelude.{nat_eq}
use Rattle.std.specs.HashMap.{get}
use Rattle.std.proofs.lemmas.Option.{slice_get_read}
use Rattle.rv_assemble.proofs.Found.{labels-more}
use Rattle.rv_assemble.proofs.labels.label_lines.Goals as goal

pub loop-k-preserved : goal.loop-k-preserved
loop-k-preserved c =
    let lines = c.args.lines.now in
    let n = c.loop-k.k in
    let here = c.index-lines-k.result in
    let g = slice_get_read lines (length lines) n here refl (omega arith) c.index-lines-k.is in
    labels-more lines n (λ q. get nat_eq c.loop-k.found q) c.loop-k.invariant here (λ q. get nat_eq c.add_label.new.found q) g c.in_ok-add_label.ensures
