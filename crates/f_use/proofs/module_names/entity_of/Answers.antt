use Rattle.std.proofs.Common.{◌≡◌, ℕ, List, Option, map, sym, subst}
use Rattle.f_items.specs.Places.{Located}
use Rattle.f_scope.specs.Own.{IsTold}
use Rattle.f_scope.specs.Rows.{seen}
use Rattle.f_use.specs.Uses.{OwnEntity, entity_at}
use Rattle.f_use.proofs.Grants.{own_entity}
use Rattle.f_use.proofs.module_names.entity_of.Goals as goal

pub returns : goal.returns
returns c =
    let rows = c.parts.result.scopes.now in
    let xs = c.parts.result.items.now in
    let s = c.args.scope in
    let name = c.args.name.now in
    let items : map (seen rows) xs ≡ c.args.program.now.items = c.parts.ensures.items_are in
    let P : List Located → Type 0 = λ p. IsTold p s name c.declared-told.result in
    let Q : List Located → Type 0 = λ p. OwnEntity p s name (entity_at xs c.declared-told.result) in
    let R : Option ℕ → Type 0 = λ o. OwnEntity c.args.program.now.items s name o in
    subst R (sym c.entity_at.ensures) (subst Q items (own_entity rows xs s name c.declared-told.result (subst P (sym items) c.declared-told.ensures)))
