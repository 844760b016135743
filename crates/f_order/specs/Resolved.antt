-- A program whose USE statements are resolved.
use Rattle.std.specs.Prelude.{◌≡◌, ℕ, []}
use Rattle.f_items.specs.Order.{IsOnCycle, InOrder}
use Rattle.f_items.specs.Scoped.{IsFirst}
use Rattle.f_scope.specs.Program.{Outline}
use Rattle.f_order.specs.declared.resolved.Resolved.{Resolved as Made}
use Rattle.f_order.specs.declared.resolved.Resolution.{Resolution}
use Rattle.f_order.specs.declared.resolved.Resolution.TheVariants.{OnCycle, Resolved}
use Rattle.f_order.specs.Units.{AreUnits}

-- it is the program with its units in order, in which no USE statement lies on a cycle
pub record IsResolved (o : Outline) (r : Made) : Type 0 where
  pub program_is : r.program ≡ o
  pub units_are : AreUnits o r.units.items
  pub order_is : InOrder o.items [] r.order.items
  pub no_cycle : (k : ℕ) → IsOnCycle o.items k → ⊥

abbrev pub IsResolution : Outline → Resolution → Type 0
IsResolution o (OnCycle k) = IsFirst (IsOnCycle o.items) k
IsResolution o (Resolved r) = IsResolved o r
