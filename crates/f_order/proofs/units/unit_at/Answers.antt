use Rattle.std.proofs.Common.{◌≡◌, ℕ, Some, slice_get, sym, ap, ◌∙◌, subst}
use Rattle.std.specs.Option.{option_copied}
use Rattle.f_order.specs.Units.{UnitFound}
use Rattle.f_order.proofs.Numbers.{unit_there}
use Rattle.f_order.proofs.units.unit_at.Goals as goal

pub returns-in-Some : goal.returns-in-Some
returns-in-Some c =
    let parts = c.parts.result in
    let is : slice_get parts.items.now c.args.place ≡ Some c.in-Some.item.now = sym c.item_at.ensures ∙ ap option_copied c.in-Some.is in
    let P : ℕ → Type 0 = λ n. UnitFound c.args.program.now.items c.args.place (Some n) in
    subst P (sym c.number_at.ensures) (unit_there c.args.program.now parts.scopes.now parts.items.now parts.own.now c.parts.ensures c.args.units.now c.requires c.args.place c.in-Some.item.now is)
