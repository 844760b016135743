use Rattle.std.proofs.Common.{ℕ, List, ap, ◌∙◌, subst}
use Rattle.std.proofs.lemmas.List.{nil_from_length}
use Rattle.f_order.specs.Reach.{State, extended}
use Rattle.f_order.proofs.Behind.{Going, going_first, going_next, going_last}
use Rattle.f_order.proofs.scopes.put_units.Goals as goal

pub units-init : goal.units-init
units-init c = going_first c.args.program.now c.args.units.now c.args.order.now (c.args.found.now.items, c.args.marks.now.items) c.requires.order c.requires.none

pub units-preserved : goal.units-preserved
units-preserved c =
    let s : State = (c.units.found.items, c.units.marks.items) in
    let P : List ℕ → Type 0 = λ r. Going c.args.program.now c.args.units.now r s in
    going_next c.args.program.now c.args.units.now c.requires.units c.args.lists.now c.requires.lists c.in-Some.unit.now c.in-Some.behind.now s (c.extend.new.found.items, c.extend.new.marks.items) (subst P c.in-Some.ensures.cases.0 c.units.invariant) (c.in_ok-extend.ensures ∙ ap (λ l. extended l s) c.places_in.ensures)

pub returns : goal.returns
returns c = going_last c.args.program.now c.args.units.now c.units.rest.now (c.units.found.items, c.units.marks.items) (nil_from_length c.units.rest.now c.in_default.ensures.cases) c.units.invariant
