-- What is held of a program that keeps the rules on names.
use Rattle.std.specs.Prelude.{◌≡◌, ℕ, ◌<◌, ◌≤◌, List, [], Option}
use Rattle.f_items.specs.Places.{Located, At}
use Rattle.f_items.specs.Order.{InOrder}
use Rattle.f_items.specs.Scoped.{IsKept}
use Rattle.f_order.specs.declared.resolved.Resolved.{Resolved}
use Rattle.f_scopes.specs.Numbers.{scope_count, number_of}
use Rattle.f_scopes.specs.References.{AreReferences}

-- the scopes have the numbers from 0 on, so many
pub record AreNumbered (p : List Located) (count : ℕ) : Type 0 where
  pub all : (s : ℕ) → s < count → (k : ℕ) × (l : Located) × At p k l × (number_of l ≡ s)
  pub within : (k : ℕ) (l : Located) → At p k l → number_of l < count

pub record IsHeld (r : Resolved) (count : ℕ) (references : List (Option ℕ)) : Type 0 where
  pub kept : IsKept r.program.items
  pub order_is : InOrder r.program.items [] r.order.items
  pub count_is : count ≡ scope_count r.program.items
  pub numbered : AreNumbered r.program.items count
  pub below : count ≤ r.program.scopes
  pub references_are : AreReferences r.program.items references
