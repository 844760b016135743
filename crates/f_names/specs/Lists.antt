-- The places of the items of each unit.
use Rattle.std.specs.Prelude.{◌≡◌, ◌<◌, ℕ, List, Option, Some, None, slice_get}
use Rattle.f_items.specs.Places.{Located, unit_of, At}
use Rattle.f_use.specs.Places.{Among, list_at, put_at}

abbrev pub put_unit : List (List ℕ) → Option ℕ → ℕ → List (List ℕ)
put_unit lists None place = lists
put_unit lists (Some u) place = put_at lists u place

-- each number is smaller than those behind it
abbrev pub Ascending : List ℕ → Type 0
Ascending xs = (i j x y : ℕ) → i < j → slice_get xs i ≡ Some x → slice_get xs j ≡ Some y → x < y

-- the lists have the places of each unit's items
pub record ArePlaces (p : List Located) (lists : List (List ℕ)) : Type 0 where
  pub all : (k : ℕ) (l : Located) → At p k l → Among (list_at lists (unit_of l)) k
  pub within : (u k : ℕ) → Among (list_at lists u) k → (l : Located) × At p k l × (unit_of l ≡ u)
  pub ascending : (u : ℕ) → Ascending (list_at lists u)
