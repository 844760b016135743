use Rattle.std.proofs.Common.{◌≡◌, ℕ, ◌+◌, List, [], ◌∷◌, ◌++◌, length, refl, sym, ap, ◌∙◌, subst, arith}
use Rattle.std.specs.Prelude.{slice_index}
use Rattle.std.proofs.lemmas.Option.{slice_get_read}
use Rattle.rv_assemble.specs.Places.{size_of_line, gap}
use Rattle.rv_assemble.proofs.Pushed.{PlacesTo, places-more, places-all}
use Rattle.rv_assemble.proofs.places.places.Goals as goal

pub loop-k-preserved : goal.loop-k-preserved
loop-k-preserved c =
    let lines = c.args.lines.now in
    let wide = c.args.wide.now in
    let targets = c.args.targets.now in
    let n = c.loop-k.k in
    let old = c.loop-k.end in
    let here = c.index-lines-k.result in
    let size = c.size-end.result in
    let g = slice_get_read lines (length lines) n here refl (omega arith) c.index-lines-k.is in
    let e : size ≡ size_of_line here (gap (slice_index wide n) (slice_index wide (slice_index targets n))) =
    c.size-end.ensures ∙ ap (λ (m : ℕ). size_of_line here m) (c.abs_diff.ensures ∙ omega arith) in
    let items : c.push-in-loop-k.new.self.items ≡ c.loop-k.places.items ++ (old + size) ∷ [] = c.in_ok-push-2.ensures.items in
    subst (λ (ys : List ℕ). PlacesTo lines targets wide ys (n + 1) (old + size)) (sym items)
    (places-more lines targets wide c.loop-k.places.items n old here size c.loop-k.invariant g e (c.requires.wide.steps n here g))

pub returns : goal.returns
returns c = places-all c.args.lines.now c.args.targets.now c.args.wide.now c.loop-k.places.items c.loop-k.k c.loop-k.end (omega arith) c.loop-k.invariant
