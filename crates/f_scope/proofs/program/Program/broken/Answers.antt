use Rattle.std.proofs.Common.{◌≡◌, List, Option, slice_get, map, sym, ap, ◌∙◌, subst}
use Rattle.f_items.specs.Places.{Located}
use Rattle.f_scope.specs.declared.name_rule.Rule.{Rule}
use Rattle.f_scope.specs.Rows.{seen}
use Rattle.f_scope.specs.Alone.{broken_item, DeclarationFound}
use Rattle.f_scope.proofs.Broken.{broken_found}
use Rattle.f_scope.proofs.program.Program.broken.Goals as goal

pub returns : goal.returns
returns c =
    let rows = c.self.inside.scopes.items in
    let xs = c.self.inside.items.items in
    let own = c.self.inside.own.items in
    let k = c.args.place in
    let p = map (seen rows) xs in
    let items_are : p ≡ c.args.self.now.items = ap (λ v. v.items) c.self.view_is in
    let found : DeclarationFound p k (broken_item rows own (slice_get xs k) k) = broken_found rows c.self.invariant.hosts xs c.self.invariant.within own c.self.invariant.own_are k in
    let is : broken_item rows own (slice_get xs k) k ≡ c.broken_at.result = sym (c.broken_at.ensures ∙ ap (λ r. broken_item r c.as_slice-2.result.now (slice_get c.as_slice-3.result.now k) k) c.as_slice.ensures.value ∙ ap (λ o. broken_item rows o (slice_get c.as_slice-3.result.now k) k) c.as_slice-2.ensures.value ∙ ap (λ l. broken_item rows own (slice_get l k) k) c.as_slice-3.ensures.value) in
    let P : List Located → Type 0 = λ q. DeclarationFound q k c.broken_at.result in
    let Q : Option Rule → Type 0 = λ r. DeclarationFound p k r in
    subst P items_are (subst Q is found)
