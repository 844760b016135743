use Rattle.std.proofs.Common.{◌≡◌, ◌∙◌, sym, ap, arith}
use Rattle.std.specs.Prelude.{slice_index}
use Rattle.reg_alloc.specs.Steps.{init_of}
use Rattle.reg_alloc.proofs.trace.starts_otherwise.Goals as goal

pub bounds-start-place_of : goal.bounds-start-place_of
bounds-start-place_of c = let l = c.requires.facts.places_are.each c.args.v c.requires.value in omega (arith, l, c.place_of.ensures)

pub returns-then-first-v : goal.returns-then-first-v
returns-then-first-v c =
    let h = slice_index c.args.facts.now.places.now c.args.v in
    let e : slice_index c.args.facts.now.start.now c.place_of.result ≡ init_of c.args.facts.now.places.now c.args.facts.now.proc.now h = ap (λ n. slice_index c.args.facts.now.start.now n) c.place_of.ensures ∙ c.requires.facts.start_is h (c.requires.facts.places_are.each c.args.v c.requires.value) in
    λ z. sym e ∙ c.if-first-v.true

pub returns : goal.returns
returns c =
    let h = slice_index c.args.facts.now.places.now c.args.v in
    let e : slice_index c.args.facts.now.start.now c.place_of.result ≡ init_of c.args.facts.now.places.now c.args.facts.now.proc.now h = ap (λ n. slice_index c.args.facts.now.start.now n) c.place_of.ensures ∙ c.requires.facts.start_is h (c.requires.facts.places_are.each c.args.v c.requires.value) in
    (c.if-t-ne0.false, λ q. c.if-first-v.false (e ∙ q))
