-- What is known of units: which there are, in which a module is, and on which others each depends.
use Rattle.std.specs.Prelude.{◌≡◌, ◌<◌, ℕ, List, Bool, true, not, ◌&&◌, Decides, Option, Some, None}
use Rattle.f_items.specs.Places.{Located}
use Rattle.f_items.specs.Order.{DependsOn, Reaches, IsUnit, IsModuleUnit}
use Rattle.f_scope.specs.Program.{Outline}
use Rattle.f_use.specs.Places.{Among, list_at, put_at}
use Rattle.f_order.specs.declared.units.Edge.{Edge}
use Rattle.f_order.specs.Marks.{marked, are_marked}

-- the lists have the units on which each unit depends
abbrev pub AreEdges : List Located → List (List ℕ) → Type 0
AreEdges p edges = (u m : ℕ) → (Among (list_at edges u) m → DependsOn p u m) × (DependsOn p u m → Among (list_at edges u) m)

-- the lists with one edge more, if there is one
abbrev pub put_some : List (List ℕ) → Option Edge → List (List ℕ)
put_some edges None = edges
put_some edges (Some e) = put_at edges e.unit e.module_unit

-- units on which others depend are scopes of the program
abbrev pub AreInside : Outline → Type 0
AreInside o = (u m : ℕ) → DependsOn o.items u m → m < o.scopes

-- the marks tell which units there are and in which a module is
pub record IsGraph (o : Outline) (units modules : List Bool) (edges : List (List ℕ)) : Type 0 where
  pub units_are : (u : ℕ) → Decides (marked units u) (IsUnit o.items u)
  pub modules_are : (u : ℕ) → Decides (marked modules u) (IsModuleUnit o.items u)
  pub edges_are : AreEdges o.items edges
  pub within : (u : ℕ) → IsUnit o.items u → u < o.scopes

-- a module that wasn't looked at, but those that it uses were
abbrev pub is_next : List Bool → List (List ℕ) → List Bool → ℕ → Bool
is_next modules edges done u = marked modules u && (not (marked done u) && are_marked done (list_at edges u))

-- a unit that wasn't looked at
abbrev pub is_other : List Bool → List Bool → ℕ → Bool
is_other units done u = marked units u && not (marked done u)

-- the least number that passes, or that none does
abbrev pub LeastFound : (ℕ → Bool) → Option ℕ → Type 0
LeastFound f None = (u : ℕ) → f u ≡ true → ⊥
LeastFound f (Some u) = (f u ≡ true) × ((v : ℕ) → v < u → f v ≡ true → ⊥)

-- the units that one reaches along USE statements
abbrev pub AreReached : List Located → ℕ → List Bool → Type 0
AreReached p u marks = (v : ℕ) → Decides (marked marks v) (Reaches p u v)
