use Rattle.std.proofs.Common.{◌≡◌, ℕ, Some, slice_get, sym, ap, ◌∙◌, subst}
use Rattle.std.specs.Option.{option_copied}
use Rattle.f_order.specs.Units.{ModuleFound}
use Rattle.f_order.proofs.Numbers.{module_there, module_not}
use Rattle.f_order.proofs.units.module_at.Goals as goal

pub returns-then-names_module : goal.returns-then-names_module
returns-then-names_module c =
    let parts = c.parts-parts.result in
    let is : slice_get parts.items.now c.args.place ≡ Some c.in-Some.item.now = sym c.item_at.ensures ∙ ap option_copied c.in-Some.is in
    let P : ℕ → Type 0 = λ n. ModuleFound c.args.program.now.items c.args.place (Some n) in
    subst P (sym c.number_at.ensures) (module_there c.args.program.now parts.scopes.now parts.items.now parts.own.now c.parts-parts.ensures c.args.units.now c.requires c.args.place c.in-Some.item.now is (sym c.names_module.ensures ∙ c.if-names_module.true))

pub returns-else-names_module : goal.returns-else-names_module
returns-else-names_module c =
    let parts = c.parts-parts.result in
    let is : slice_get parts.items.now c.args.place ≡ Some c.in-Some.item.now = sym c.item_at.ensures ∙ ap option_copied c.in-Some.is in
    module_not c.args.program.now parts.scopes.now parts.items.now parts.own.now c.parts-parts.ensures c.args.units.now c.requires c.args.place c.in-Some.item.now is (sym c.names_module.ensures ∙ c.if-names_module.false)
