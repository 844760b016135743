use Rattle.std.proofs.Common.{◌≡◌, ℕ, ◌+◌, length, refl, sym, ◌∙◌, subst, arith}
use Rattle.std.specs.Prelude.{slice_index, vec_len}
use Rattle.std.proofs.lemmas.Option.{slice_get_read}
use Rattle.rv_assemble.specs.Places.{FitsLine, LineTo}
use Rattle.rv_assemble.proofs.Coded.{proper-for, code-more}
use Rattle.rv_assemble.proofs.assembling.code_of.Goals as goal

pub put_line-requires-clause-proper : goal.put_line-requires-clause-proper
put_line-requires-clause-proper c =
    let lines = c.args.lines.now in
    let here = c.index-lines-k.result in
    let g = slice_get_read lines (length lines) c.loop-k.k here refl (omega arith) c.index-lines-k.is in
    proper-for lines here (c.requires.proper c.loop-k.k here g)

pub put_line-requires-clause-fits : goal.put_line-requires-clause-fits
put_line-requires-clause-fits c =
    let lines = c.args.lines.now in
    let places = c.args.places.now in
    let k = c.loop-k.k in
    let here = c.index-lines-k.result in
    let g = slice_get_read lines (length lines) k here refl (omega arith) c.index-lines-k.is in
    let len : vec_len c.loop-k.code ≡ length c.loop-k.code.items = omega arith in
    subst (λ (m : ℕ). FitsLine here m (slice_index places (k + 1)) (slice_index places (slice_index c.args.targets.now k))) (sym (len ∙ c.loop-k.invariant.ends))
    (c.requires.fitting.fits k here g)

pub loop-k-preserved : goal.loop-k-preserved
loop-k-preserved c =
    let lines = c.args.lines.now in
    let places = c.args.places.now in
    let targets = c.args.targets.now in
    let k = c.loop-k.k in
    let here = c.index-lines-k.result in
    let g = slice_get_read lines (length lines) k here refl (omega arith) c.index-lines-k.is in
    let len : vec_len c.loop-k.code ≡ length c.loop-k.code.items = omega arith in
    let ends : length c.put_line.new.code.items ≡ slice_index places (k + 1) = omega (arith, c.in_ok-put_line.ensures.len) in
    code-more lines targets places k c.loop-k.code.items c.put_line.new.code.items here c.loop-k.invariant g
    c.in_ok-put_line.ensures.keeps ends
    (subst (λ (m : ℕ). LineTo c.put_line.new.code.items m (slice_index places (k + 1)) (slice_index places (slice_index targets k)) here) (len ∙ c.loop-k.invariant.ends)
    c.in_ok-put_line.ensures.line)
