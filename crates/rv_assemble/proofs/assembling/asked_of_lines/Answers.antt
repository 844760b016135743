use Rattle.std.proofs.Common.{◌≡◌, ℕ, ◌+◌, List, ◌++◌, length, take, refl, sym, ap, ◌∙◌, arith}
use Rattle.std.specs.Prelude.{slice_index}
use Rattle.std.proofs.lemmas.Option.{slice_get_read}
use Rattle.rv_assemble.specs.declared.object.Relocation.{Relocation}
use Rattle.rv_assemble.specs.Lines.{asked_by, asked_by_lines}
use Rattle.rv_assemble.proofs.Coded.{asked-more}
use Rattle.rv_assemble.proofs.assembling.asked_of_lines.Goals as goal

pub loop-k-preserved : goal.loop-k-preserved
loop-k-preserved c =
    let lines = c.args.lines.now in
    let places = c.args.places.now in
    let k = c.loop-k.k in
    let here = c.index-lines-k.result in
    let g = slice_get_read lines (length lines) k here refl (omega arith) c.index-lines-k.is in
    let zero : 0 + k ≡ k = omega arith in
    let more = asked-more 0 k lines places here g in
    c.in_ok-ask.ensures
    ∙ ap (λ (rs : List Relocation). rs ++ asked_by (slice_index places k) here) c.loop-k.invariant
    ∙ ap (λ (m : ℕ). asked_by_lines 0 (take k lines) places ++ asked_by (slice_index places m) here) (sym zero)
    ∙ sym more
