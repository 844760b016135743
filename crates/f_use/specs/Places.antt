-- Where the USE statements of each scope stand.
use Rattle.std.specs.Prelude.{◌≡◌, ℕ, suc, ◌<◌, List, [], ◌∷◌, ◌++◌, length, Bool, true, false, Some, nat_lt, if◌then◌else◌, slice_get, slice_set, slice_index_or}
use Rattle.f_items.specs.declared.item.Item.{Item}
use Rattle.f_items.specs.declared.item.Item.TheVariants.{Uses, Takes}
use Rattle.f_items.specs.Places.{Located, scope_of, At}
use Rattle.f_scope.specs.declared.placement.Placed.{Placed}

-- an item is a USE statement, or a name in one
abbrev pub is_use : Item → Bool
is_use (Uses place m i o) = true
is_use (Takes m l u r) = true
is_use _ = false

-- a number is in a list
abbrev pub Among : List ℕ → ℕ → Type 0
Among xs x = (i : ℕ) × (slice_get xs i ≡ Some x)

abbrev pub list_at : List (List ℕ) → ℕ → List ℕ
list_at lists scope = slice_index_or lists scope []

abbrev pub put_at : List (List ℕ) → ℕ → ℕ → List (List ℕ)
put_at lists scope place = if nat_lt scope (length lists) then slice_set lists scope (list_at lists scope ++ place ∷ []) else lists

abbrev pub put_item : List (List ℕ) → Item → ℕ → ℕ → List (List ℕ)
put_item lists (Uses p m i o) scope place = put_at lists scope place
put_item lists (Takes m l u r) scope place = put_at lists scope place
put_item lists _ scope place = lists

-- the lists behind items, the first of which stands at this place
unfoldable pub put_items : List (List ℕ) → ℕ → List Placed → List (List ℕ)
put_items lists place [] = lists
put_items lists place (x ∷ xs) = put_items (put_item lists x.item x.scope place) (suc place) xs

-- the item at place k is one of a USE statement in the scope
pub record IsUsePlace (p : List Located) (scope k : ℕ) : Type 0 where
  pub located : Located
  pub at : At p k located
  pub uses : is_use located.item ≡ true
  pub scope_is : (scope_of located).number ≡ scope

-- the lists of so many scopes have these places and no others
abbrev pub AreUsePlaces : List Located → List (List ℕ) → ℕ → Type 0
AreUsePlaces p lists count = (scope : ℕ) → scope < count → (k : ℕ) → (Among (list_at lists scope) k → IsUsePlace p scope k) × (IsUsePlace p scope k → Among (list_at lists scope) k)
