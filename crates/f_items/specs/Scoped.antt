-- The first broken rule on names, and that no rule is broken.
use Rattle.std.specs.Prelude.{◌≡◌, ℕ, ◌<◌, ◌≤◌, List, [], ◌∷◌, ◌++◌}
use Rattle.f_items.specs.declared.item.Declared.{Declared}
use Rattle.f_items.specs.declared.item.Item.TheVariants.{Declares}
use Rattle.f_items.specs.declared.item.Class.TheVariants as class
use Rattle.f_items.specs.Places.{Located, unit_of, At}
use Rattle.f_items.specs.Rules.{Breaks}
use Rattle.f_items.specs.Order.{IsOnCycle, InOrder}

-- the item at place k names a program or a module
pub record NamesUnit (p : List Located) (k : ℕ) (name : List ℕ) : Type 0 where
  pub item : Located
  pub what : Declared
  pub at : At p k item
  pub item_is : item.item ≡ Declares what
  pub unit_name : what.class ≡ class.UnitName
  pub name_is : what.name.bytes ≡ name

-- a program or a module has the name of another before it
pub record IsNamedTwice (p : List Located) (k : ℕ) : Type 0 where
  pub name : List ℕ
  pub before : ℕ
  pub first : NamesUnit p before name
  pub second : NamesUnit p k name
  pub is_before : before < k

-- the first place of which something holds
pub record IsFirst (P : ℕ → Type 0) (k : ℕ) : Type 0 where
  pub here : P k
  pub none_before : (j : ℕ) → j < k → P j → ⊥

-- the item at place k breaks this rule, and none with a smaller number
pub record BreaksLeast (p : List Located) (k rule : ℕ) : Type 0 where
  pub item : Located
  pub at : At p k item
  pub breaks : Breaks p k item rule
  pub least : (other : ℕ) → Breaks p k item other → rule ≤ other

-- an item of the unit breaks a rule
pub record BreaksIn (p : List Located) (u k : ℕ) : Type 0 where
  pub item : Located
  pub rule : ℕ
  pub at : At p k item
  pub unit_is : unit_of item ≡ u
  pub breaks : Breaks p k item rule

-- nothing is broken in these units
abbrev pub AreKept : List Located → List ℕ → Type 0
AreKept p [] = Unit {0}
AreKept p (u ∷ us) = ((k : ℕ) → BreaksIn p u k → ⊥) × AreKept p us

-- the first broken rule: the item at place k breaks it
pub data BreaksFirst (p : List Located) : ℕ → ℕ → Type 0 where
  -- N01: the name of a program or a module stands there a second time
  UnitTwice : (k : ℕ) → IsFirst (IsNamedTwice p) k → BreaksFirst p k 1
  -- N05: a USE statement lies on a cycle, and no two units have one name
  OnCycle : (k : ℕ) → ((j : ℕ) → IsNamedTwice p j → ⊥) → IsFirst (IsOnCycle p) k → BreaksFirst p k 5
  -- neither; the units before are kept, and so is what stands before in this one
  InUnit : (k rule : ℕ) (before : List ℕ) (u : ℕ) (behind : List ℕ) → ((j : ℕ) → IsNamedTwice p j → ⊥) → ((j : ℕ) → IsOnCycle p j → ⊥)
      → InOrder p [] (before ++ u ∷ behind) → AreKept p before → IsFirst (BreaksIn p u) k → BreaksLeast p k rule → BreaksFirst p k rule

-- no rule on names is broken
pub record IsKept (p : List Located) : Type 0 where
  pub unit_names : (k : ℕ) → IsNamedTwice p k → ⊥
  pub no_cycle : (k : ℕ) → IsOnCycle p k → ⊥
  pub rules : (k rule : ℕ) (l : Located) → At p k l → Breaks p k l rule → ⊥
