-- The scopes of units, and scopes that stand behind the modules that they use.
use Rattle.std.specs.Prelude.{◌≡◌, ◌<◌, ℕ, List, [], length, true}
use Rattle.f_items.specs.Order.{IsUnit}
use Rattle.f_scope.specs.Program.{Outline}
use Rattle.f_use.specs.Places.{Among, list_at}
use Rattle.f_use.specs.Associated.{IsBehind}
use Rattle.f_order.specs.Marks.{marked}
use Rattle.f_order.specs.Reach.{State}
use Rattle.f_order.specs.Units.{number_at}

-- the lists have the scopes of each unit, among so many
pub record AreMembers (units : List ℕ) (count : ℕ) (lists : List (List ℕ)) : Type 0 where
  pub within : (u s : ℕ) → Among (list_at lists u) s → (s < count) × (number_at units s ≡ u)
  pub all : (u s : ℕ) → s < count → number_at units s ≡ u → u < count → Among (list_at lists u) s

-- the scopes that were found, each behind the modules that it uses, and their marks
pub record ScopesIn (o : Outline) (s : State) : Type 0 where
  pub agrees : (v : ℕ) → (marked s.1 v ≡ true → Among s.0 v) × (Among s.0 v → marked s.1 v ≡ true)
  pub within : (v : ℕ) → Among s.0 v → v < o.scopes
  pub behind : IsBehind o.items [] s.0
  pub count : length s.1 ≡ o.scopes

-- the scopes of all units are there
pub record UnitsIn (o : Outline) (units : List ℕ) (s : State) : Type 0 where
  pub are : ScopesIn o s
  pub all : (u v : ℕ) → IsUnit o.items u → v < o.scopes → number_at units v ≡ u → marked s.1 v ≡ true
