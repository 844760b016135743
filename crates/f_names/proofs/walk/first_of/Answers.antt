use Rattle.std.proofs.Common.{◌≡◌, ℕ, List, ◌∷◌, Option, Some, None, refl, sym, subst}
use Rattle.std.proofs.lemmas.List.{nil_from_length}
use Rattle.f_use.specs.Places.{list_at}
use Rattle.f_names.specs.declared.walk.Broken.{Broken}
use Rattle.f_names.specs.Walk.{FirstIn, FirstOf}
use Rattle.f_names.proofs.Walking.{of_here, of_next, of_none}
use Rattle.f_names.proofs.walk.first_of.Goals as goal

pub returns-in-Some-first_in : goal.returns-in-Some-first_in
returns-in-Some-first_in c =
    let p = c.args.program.now.items in
    let lists = c.args.lists.now in
    let b : Broken = c.in-Some-first_in.broken in
    let R : Option Broken → Type 0 = λ r. FirstIn p (list_at lists c.in-Some.unit.now) r in
    let L : List ℕ → Type 0 = λ l. FirstIn p l c.first_in.result in
    let P : List ℕ → Type 0 = λ l. FirstOf p lists l (Some b) in
    c.units.invariant (Some b) (subst P (sym c.in-Some.ensures.cases.0) (of_here p lists c.in-Some.unit.now c.in-Some.behind.now b (subst R c.in-Some-first_in.is (subst L c.places_in.ensures c.first_in.ensures))))

pub units-preserved : goal.units-preserved
units-preserved c = λ r f.
    let p = c.args.program.now.items in
    let lists = c.args.lists.now in
    let R : Option Broken → Type 0 = λ q. FirstIn p (list_at lists c.in-Some.unit.now) q in
    let L : List ℕ → Type 0 = λ l. FirstIn p l c.first_in.result in
    let P : List ℕ → Type 0 = λ l. FirstOf p lists l r in
    c.units.invariant r (subst P (sym c.in-Some.ensures.cases.0) (of_next p lists c.in-Some.unit.now c.in-Some.behind.now r (subst R c.in-None.is (subst L c.places_in.ensures c.first_in.ensures)) f))

pub returns : goal.returns
returns c = c.units.invariant None (of_none c.args.program.now.items c.args.lists.now c.units.rest.now (nil_from_length c.units.rest.now c.in_default.ensures.cases))
