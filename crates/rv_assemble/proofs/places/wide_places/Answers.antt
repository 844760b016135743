use Rattle.std.proofs.Common.{◌≡◌, ℕ, ◌+◌, ◌<◌, List, [], ◌∷◌, ◌++◌, length, refl, sym, ap, ◌∙◌, subst, arith}
use Rattle.std.proofs.lemmas.Option.{slice_get_read}
use Rattle.rv_assemble.specs.Places.{widest_of}
use Rattle.rv_assemble.proofs.Pushed.{WideTo, wide-more, wide-all, widest-le}
use Rattle.rv_assemble.proofs.places.wide_places.Goals as goal

pub loop-line-preserved : goal.loop-line-preserved
loop-line-preserved c =
    let lines = c.args.lines.now in
    let n = c.loop-line.line-index in
    let old = c.loop-line.end in
    let here = c.line-item.result in
    let g = slice_get_read lines (length lines) n here refl (omega arith) c.line-item.is in
    let e : old + c.widest-end.result ≡ old + widest_of here = ap (λ (m : ℕ). old + m) c.widest-end.ensures in
    let l : old + widest_of here < 1999999990 = omega (arith, widest-le here) in
    let items : c.push-in-loop-line.new.self.items ≡ c.loop-line.wide.items ++ (old + widest_of here) ∷ [] = c.in_ok-push-2.ensures.items ∙ ap (λ (y : ℕ). c.loop-line.wide.items ++ y ∷ []) e in
    subst (λ (ys : List ℕ). WideTo lines ys (n + 1) (old + c.widest-end.result)) (sym items)
    (subst (λ (y : ℕ). WideTo lines (c.loop-line.wide.items ++ (old + widest_of here) ∷ []) (n + 1) y) (sym e)
    (wide-more lines c.loop-line.wide.items n old here c.loop-line.invariant g l))

pub returns : goal.returns
returns c = wide-all c.args.lines.now c.loop-line.wide.items c.loop-line.line-index c.loop-line.end (omega arith) c.loop-line.invariant
