-- The order in which units are looked at, or where modules use one another in a cycle.
use Rattle.std.specs.Prelude.{◌≡◌, ℕ, List, [], ◌∷◌, ◌++◌, length, Bool, true, if◌then◌else◌, Decides, Contains, reverse, Option, Some, None}
use Rattle.f_items.specs.Places.{Located}
use Rattle.f_items.specs.Order.{IsOnCycle, IsModuleUnit, InOrder}
use Rattle.f_items.specs.Scoped.{IsFirst}
use Rattle.f_scope.specs.Program.{Outline}
use Rattle.f_order.specs.declared.order.UnitOrder.{UnitOrder}
use Rattle.f_order.specs.declared.order.UnitOrder.TheVariants.{OnCycle, Ordered}
use Rattle.f_order.specs.Marks.{marked, set_mark}
use Rattle.f_order.specs.Graph.{is_next, is_other}

-- the first USE statement on a cycle, or that there is none
abbrev pub CycleFound : List Located → Option ℕ → Type 0
CycleFound p None = (k : ℕ) → IsOnCycle p k → ⊥
CycleFound p (Some k) = IsFirst (IsOnCycle p) k

-- the units in their order, or the first USE statement that lies on a cycle of modules
abbrev pub IsUnitOrder : List Located → UnitOrder → Type 0
IsUnitOrder p (OnCycle k) = IsFirst (IsOnCycle p) k
IsUnitOrder p (Ordered us) = InOrder p [] us.items × ((k : ℕ) → IsOnCycle p k → ⊥)

-- these units were looked at in this order, and the marks tell which they are
pub record AreDone (o : Outline) (order : List ℕ) (done : List Bool) : Type 0 where
  pub behind : (us : List ℕ) → InOrder o.items (reverse order) us → InOrder o.items [] (order ++ us)
  pub tells : (u : ℕ) → Decides (marked done u) (Contains (reverse order) u)
  pub count : length done ≡ o.scopes

-- all modules were
abbrev pub AllModules : Outline → List ℕ → Type 0
AllModules o order = (m : ℕ) → IsModuleUnit o.items m → Contains (reverse order) m

-- and no further module can be looked at
pub record ModulesDone (o : Outline) (modules : List Bool) (edges : List (List ℕ)) (order : List ℕ) (done : List Bool) : Type 0 where
  pub are : AreDone o order done
  pub none_next : (u : ℕ) → is_next modules edges done u ≡ true → ⊥

-- all units were
abbrev pub OthersDone : Outline → List ℕ → Type 0
OthersDone o order = InOrder o.items [] order

-- one unit more, if it wasn't looked at
abbrev pub with_other : List Bool → List ℕ → List Bool → ℕ → List ℕ
with_other units order done u = if is_other units done u then order ++ u ∷ [] else order

abbrev pub done_other : List Bool → List Bool → ℕ → List Bool
done_other units done u = if is_other units done u then set_mark done u else done
