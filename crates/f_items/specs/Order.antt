-- In which order units are looked at: a module after those that it uses, and else in the order of the text; then the other units.
use Rattle.std.specs.Prelude.{◌≡◌, ℕ, ◌≤◌, ◌⊎◌, List, [], ◌∷◌, Option, Some, None}
use Rattle.std.specs.List.{Contains}
use Rattle.f_items.specs.declared.item.Item.{Item}
use Rattle.f_items.specs.declared.item.Item.TheVariants.{Uses, Takes}
use Rattle.f_items.specs.Places.{Located, unit_of, At}
use Rattle.f_items.specs.Accessible.{IsModule}

-- the module that an item of a USE statement names
abbrev pub module_used : Item → Option (List ℕ)
module_used (Uses place m i o) = Some m.bytes
module_used (Takes m l u r) = Some m
module_used _ = None

-- the module of this name is in the unit with this number
pub record IsInUnit (p : List Located) (name : List ℕ) (unit : ℕ) : Type 0 where
  pub scope : ℕ
  pub is_module : IsModule p name scope
  pub unit_is : unit_of is_module.located ≡ unit

-- the item at place k is a USE statement, or a name in one, in this unit for a module that is in the unit with number m
pub record UsesModule (p : List Located) (k : ℕ) (unit m : ℕ) : Type 0 where
  pub located : Located
  pub name : List ℕ
  pub at : At p k located
  pub uses : module_used located.item ≡ Some name
  pub unit_is : unit_of located ≡ unit
  pub module_is : IsInUnit p name m

-- a unit depends on a module (14.2.2)
abbrev pub DependsOn : List Located → ℕ → ℕ → Type 0
DependsOn p unit m = (k : ℕ) × UsesModule p k unit m

-- from one module to another along USE statements
pub data Reaches (p : List Located) : ℕ → ℕ → Type 0 where
  Same : (m : ℕ) → Reaches p m m
  Along : (m n o : ℕ) → DependsOn p m n → Reaches p n o → Reaches p m o

-- the USE statement at place k lies on a cycle of modules
pub record IsOnCycle (p : List Located) (k : ℕ) : Type 0 where
  pub unit : ℕ
  pub m : ℕ
  pub uses : UsesModule p k unit m
  pub back : Reaches p m unit

-- an item stands in the unit with this number, which is a program unit or what is around the program units
abbrev pub IsUnit : List Located → ℕ → Type 0
IsUnit p u = (k : ℕ) × (l : Located) × At p k l × (unit_of l ≡ u)

-- and a module is in it
abbrev pub IsModuleUnit : List Located → ℕ → Type 0
IsModuleUnit p u = (name : List ℕ) × IsInUnit p name u

-- a module can be looked at when those that it uses were, and another unit when all modules were
pub record IsReady (p : List Located) (done : List ℕ) (u : ℕ) : Type 0 where
  pub is_unit : IsUnit p u
  pub not_done : Contains done u → ⊥
  pub modules_are : (m : ℕ) → DependsOn p u m → Contains done m
  pub others_are : IsModuleUnit p u ⊎ ((m : ℕ) → IsModuleUnit p m → Contains done m)

-- the units in their order, where these were looked at already
pub data InOrder (p : List Located) : List ℕ → List ℕ → Type 0 where
  NoMore : (done : List ℕ) → ((u : ℕ) → IsUnit p u → Contains done u) → InOrder p done []
  Next : (done : List ℕ) (u : ℕ) (us : List ℕ) → IsReady p done u → ((v : ℕ) → IsReady p done v → u ≤ v) → InOrder p (u ∷ done) us → InOrder p done (u ∷ us)
