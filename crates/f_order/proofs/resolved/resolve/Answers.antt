use Rattle.std.proofs.Common.{◌≡◌, ℕ, [], subst}
use Rattle.f_items.specs.Order.{IsOnCycle, InOrder}
use Rattle.f_scope.specs.Program.{Outline}
use Rattle.f_order.specs.declared.order.UnitOrder.{UnitOrder}
use Rattle.f_order.specs.declared.order.UnitOrder.TheVariants.{Ordered}
use Rattle.f_order.specs.Order.{IsUnitOrder}
use Rattle.f_order.specs.Units.{AreUnits}
use Rattle.f_order.proofs.resolved.resolve.Goals as goal

pub returns-in_ok-program-in-Ordered : goal.returns-in_ok-program-in-Ordered
returns-in_ok-program-in-Ordered c =
    let o = c.args.stated in
    let P : Outline → Type 0 = λ v. AreUnits v c.in_ok-units.units.items in
    let Q : Outline → Type 0 = λ v. IsUnitOrder v.items c.in_ok-place.field-0 in
    let R : UnitOrder → Type 0 = λ r. IsUnitOrder o.items r in
    let order : InOrder o.items [] c.in-Ordered.order.items × ((k : ℕ) → IsOnCycle o.items k → ⊥) = subst R c.in-Ordered.is (subst Q c.program-2.ensures c.in_ok-place.ensures) in
    record {
      program_is = c.in_ok-program-in-Ordered.ensures;
      units_are = subst P c.program.ensures c.in_ok-units.ensures;
      order_is = order.0;
      no_cycle = order.1;
    }
