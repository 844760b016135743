use Rattle.std.proofs.Common.{◌≡◌, ℕ, Option, Some, None, slice_get, sym, ap, ◌∙◌, subst}
use Rattle.std.specs.Option.{option_copied}
use Rattle.f_scope.specs.declared.placement.Placed.{Placed}
use Rattle.f_scope.specs.Rows.{seen}
use Rattle.f_scope.specs.Program.{Outline, AreParts}
use Rattle.f_use.proofs.Grants.{none_seen, some_seen}
use Rattle.f_use.proofs.Scopes.{place_none, place_some}
use Rattle.f_use.proofs.statements.add_place.Goals as goal

pub add_item-requires-clause-known : goal.add_item-requires-clause-known
add_item-requires-clause-known c =
    let parts = c.parts.result in
    let P : Outline → Type 0 = λ v. AreParts v parts.scopes.now parts.items.now parts.own.now in
    let are = subst P c.program.ensures c.parts.ensures in
    let x : Placed = c.in-Some.item.now in
    let is : slice_get parts.items.now c.args.place ≡ Some x = sym c.item_at.ensures ∙ ap option_copied c.in-Some.is in
    c.requires.known (seen parts.scopes.now x) (some_seen c.args.stated.now parts.scopes.now parts.items.now parts.own.now are c.args.place x is)

pub returns-in-None : goal.returns-in-None
returns-in-None c =
    let parts = c.parts.result in
    let P : Outline → Type 0 = λ v. AreParts v parts.scopes.now parts.items.now parts.own.now in
    let are = subst P c.program.ensures c.parts.ensures in
    let is : slice_get parts.items.now c.args.place ≡ None = sym c.item_at.ensures ∙ ap option_copied c.in-None.is in
    place_none c.args.stated.now.items c.args.scope c.args.place c.args.table.now (none_seen c.args.stated.now parts.scopes.now parts.items.now parts.own.now are c.args.place is)

pub returns-in_ok-add_item-in-Some : goal.returns-in_ok-add_item-in-Some
returns-in_ok-add_item-in-Some c =
    let parts = c.parts.result in
    let P : Outline → Type 0 = λ v. AreParts v parts.scopes.now parts.items.now parts.own.now in
    let are = subst P c.program.ensures c.parts.ensures in
    let x : Placed = c.in-Some.item.now in
    let is : slice_get parts.items.now c.args.place ≡ Some x = sym c.item_at.ensures ∙ ap option_copied c.in-Some.is in
    place_some c.args.stated.now.items c.args.scope c.args.place (seen parts.scopes.now x) c.args.table.now c.add_item.new.table (some_seen c.args.stated.now parts.scopes.now parts.items.now parts.own.now are c.args.place x is) c.in_ok-add_item-in-Some.ensures
