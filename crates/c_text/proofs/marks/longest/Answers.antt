use Rattle.std.proofs.Common.{◌<◌, ◌∙◌, sym, ap, map, max, length, List, ℕ, [], arith}
use Rattle.std.proofs.lemmas.List.{length-map, get_or-map}
use Rattle.c_text.specs.Marks.{length_at}
use Rattle.c_text.proofs.Best.{looked}
use Rattle.c_text.proofs.marks.longest.Goals as goal

pub loop-mark-preserved : goal.loop-mark-preserved
loop-mark-preserved c =
    let lt : c.loop-mark.mark-index < length (map (λ x. x.now) c.args.marks.now) = omega (arith, length-map c.args.marks.now (λ x. x.now)) in
    looked (map (λ x. x.now) c.args.marks.now) c.args.text.now c.loop-mark.mark-index c.loop-mark.found c.max-found.result _ lt
    (c.max-found.ensures ∙ ap (λ n. max c.loop-mark.found n) (c.length_at.ensures ∙ ap (λ (m : List ℕ). length_at m c.args.text.now) (sym (get_or-map (λ x. x.now) c.args.marks.now c.loop-mark.mark-index _ [] c.loop-mark-test.true)))) c.loop-mark.invariant
