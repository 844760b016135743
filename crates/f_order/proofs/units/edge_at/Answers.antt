use Rattle.std.proofs.Common.{◌≡◌, ℕ, List, Option, Some, slice_get, sym, ap, ◌∙◌, subst}
use Rattle.std.specs.Option.{option_copied}
use Rattle.f_items.specs.Order.{module_used}
use Rattle.f_use.specs.Uses.{ModuleIn}
use Rattle.f_order.specs.Units.{EdgeFound}
use Rattle.f_order.proofs.Numbers.{edge_absent, edge_there}
use Rattle.f_order.proofs.units.edge_at.Goals as goal

pub returns-in-None-module_of : goal.returns-in-None-module_of
returns-in-None-module_of c =
    let parts = c.parts.result in
    let is : slice_get parts.items.now c.args.place ≡ Some c.in-Some.item.now = sym c.item_at.ensures ∙ ap option_copied c.in-Some.is in
    let named : module_used c.in-Some.item.now.item ≡ Some c.in-Some-module_used.name.now = sym c.module_used.ensures ∙ ap option_copied c.in-Some-module_used.is in
    let P : List ℕ → Type 0 = λ n. ModuleIn c.args.program.now n c.module_of.result in
    let Q : Option ℕ → Type 0 = λ r. ModuleIn c.args.program.now c.in-Some-module_used.name.now r in
    edge_absent c.args.program.now parts.scopes.now parts.items.now parts.own.now c.parts.ensures c.args.units.now c.requires c.args.place c.in-Some.item.now is c.in-Some-module_used.name.now named (subst Q c.in-None-module_of.is (subst P c.as_slice.ensures c.module_of.ensures))

pub returns-in-Some-module_of : goal.returns-in-Some-module_of
returns-in-Some-module_of c =
    let parts = c.parts.result in
    let is : slice_get parts.items.now c.args.place ≡ Some c.in-Some.item.now = sym c.item_at.ensures ∙ ap option_copied c.in-Some.is in
    let named : module_used c.in-Some.item.now.item ≡ Some c.in-Some-module_used.name.now = sym c.module_used.ensures ∙ ap option_copied c.in-Some-module_used.is in
    let P : List ℕ → Type 0 = λ n. ModuleIn c.args.program.now n c.module_of.result in
    let Q : Option ℕ → Type 0 = λ r. ModuleIn c.args.program.now c.in-Some-module_used.name.now r in
    let A : ℕ → Type 0 = λ n. EdgeFound c.args.program.now.items c.args.place (Some (record { unit = n; module_unit = c.number_at-in-Some-module_of.result })) in
    let B : ℕ → Type 0 = λ n. EdgeFound c.args.program.now.items c.args.place (Some (record { unit = Rattle.f_order.specs.Units.number_at c.args.units.now c.in-Some.item.now.scope; module_unit = n })) in
    subst A (sym c.number_at.ensures) (subst B (sym c.number_at-in-Some-module_of.ensures) (edge_there c.args.program.now parts.scopes.now parts.items.now parts.own.now c.parts.ensures c.args.units.now c.requires c.args.place c.in-Some.item.now is c.in-Some-module_used.name.now named c.in-Some-module_of.scope (subst Q c.in-Some-module_of.is (subst P c.as_slice.ensures c.module_of.ensures))))
