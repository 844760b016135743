use Rattle.std.proofs.Common.{◌≡◌, List, Option, ℕ, map, [], ap, ◌∙◌, subst}
use Rattle.f_items.specs.Places.{Located, located}
use Rattle.f_items.specs.Scoped.{IsNamedTwice}
use Rattle.f_scope.specs.Rows.{seen}
use Rattle.f_scope.specs.UnitNames.{UnitsFound}
use Rattle.f_scope.proofs.Modules.{twice_first}
use Rattle.f_scope.proofs.program.begin.Goals as goal

pub returns-in-Some : goal.returns-in-Some
returns-in-Some c =
    let p = map (seen c.as_slice-3.result.now) c.as_slice-4.result.now in
    let is : p ≡ located 1 [] c.args.items.items = ap (λ r. map (seen r) c.as_slice-4.result.now) c.as_slice-3.ensures.value ∙ ap (map (seen c.in_ok-placed.placed.scopes.items)) c.as_slice-4.ensures.value ∙ c.in_ok-placed.ensures.items in
    let P : Option ℕ → Type 0 = λ o. UnitsFound p o c.in_ok-twice.units in
    twice_first p (located 1 [] c.args.items.items) c.in-Some.place is (subst P c.in-Some.is c.in_ok-twice.ensures)

pub returns-in-None : goal.returns-in-None
returns-in-None c =
    let p = map (seen c.as_slice-3.result.now) c.as_slice-4.result.now in
    let is : p ≡ located 1 [] c.args.items.items = ap (λ r. map (seen r) c.as_slice-4.result.now) c.as_slice-3.ensures.value ∙ ap (map (seen c.in_ok-placed.placed.scopes.items)) c.as_slice-4.ensures.value ∙ c.in_ok-placed.ensures.items in
    let P : Option ℕ → Type 0 = λ o. UnitsFound p o c.in_ok-twice.units in
    let Q : List Located → Type 0 = λ l. (k : ℕ) → IsNamedTwice l k → ⊥ in
    (ap (λ o. o.items) c.program_of.ensures ∙ c.in_ok-placed.ensures.items, subst Q is (subst P c.in-None.is c.in_ok-twice.ensures).once)
