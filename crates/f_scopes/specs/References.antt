-- What the names of items refer to.
use Rattle.std.specs.Prelude.{◌≡◌, ℕ, List, Option, Some, None, length, slice_get}
use Rattle.f_items.specs.declared.item.Name.{Name}
use Rattle.f_items.specs.declared.item.Item.TheVariants.{Selects}
use Rattle.f_items.specs.Places.{Located, At}
use Rattle.f_items.specs.Rules.{Finds, sought}
use Rattle.f_items.specs.Selections.{SelectsFrom, IsPartOf, IsComponent}
use Rattle.f_use.specs.declared.origins.Origins.{Origins}

-- the item at place k refers to what is declared there
pub data RefersTo (p : List Located) (k : ℕ) (l : Located) : ℕ → Type 0 where
  -- its name denotes that
  ByName : (j : ℕ) → Finds p l j → RefersTo p k l j
  -- it selects a component, which the derived type of the part before it declares (9.4.2)
  ByComponent : (n : Name) (j t c : ℕ) → l.item ≡ Selects n → SelectsFrom p k j → IsPartOf p j (Some t) → IsComponent p t n.bytes c → RefersTo p k l c

-- the one declaration that the item refers to, or that it refers to none; then it seeks no name
abbrev pub IsReference : List Located → ℕ → Located → Option ℕ → Type 0
IsReference p k l None = (sought l.item ≡ None) × ((j : ℕ) → RefersTo p k l j → ⊥)
IsReference p k l (Some j) = RefersTo p k l j × ((i : ℕ) → RefersTo p k l i → i ≡ j)

abbrev pub ReferenceAt : List Located → ℕ → Option ℕ → Type 0
ReferenceAt p k r = (l : Located) → At p k l → IsReference p k l r

-- the first entries of a table are those of the items
abbrev pub AreFirst : List Located → List (Option ℕ) → Type 0
AreFirst p found = (k : ℕ) (r : Option ℕ) → slice_get found k ≡ Some r → ReferenceAt p k r

-- for each item the declaration that it refers to
pub record AreReferences (p : List Located) (found : List (Option ℕ)) : Type 0 where
  pub count : length found ≡ length p
  pub each : AreFirst p found

abbrev pub first_of : Option Origins → Option ℕ
first_of None = None
first_of (Some o) = Some o.first
