-- Scopes by their numbers in a table: each row has the kind of a scope and the number of the scope around it.
use Rattle.std.specs.Prelude.{◌≡◌, ◌<◌, ◌≤◌, ℕ, zero, suc, List, [], ◌∷◌, ◌++◌, length, ◌==◌, if◌then◌else◌, slice_index_or}
use Rattle.f_items.specs.declared.item.Item.{Item}
use Rattle.f_items.specs.declared.item.Item.TheVariants.{Enter, Leave}
use Rattle.f_items.specs.declared.item.ScopeKind.TheVariants as kind
use Rattle.f_items.specs.Places.{Open, Located}
use Rattle.f_scope.specs.declared.placement.ScopeRow.{ScopeRow}
use Rattle.f_scope.specs.declared.placement.Placed.{Placed}

-- what is around the program units
abbrev pub outer_row : ScopeRow
outer_row = record { kind = kind.Intrinsic; host = 0; unit = 0 }

abbrev pub row_at : List ScopeRow → ℕ → ScopeRow
row_at rows s = slice_index_or rows s outer_row

-- the program unit of a scope that begins in scope s
abbrev pub unit_in : List ScopeRow → ℕ → ℕ
unit_in rows s = if s == 0 then length rows else (row_at rows s).unit

abbrev pub host_in : List ScopeRow → ℕ → ℕ
host_in rows s = (row_at rows s).host

-- a scope and those around it, so many at most
unfoldable pub chain : ℕ → List ScopeRow → ℕ → Open
chain zero rows s = []
chain (suc n) rows zero = []
chain (suc n) rows (suc s) = record { number = suc s; kind = (row_at rows (suc s)).kind } ∷ chain n rows (host_in rows (suc s))

-- a scope and those around it, the innermost first, without what is around the program units
abbrev pub chain_of : List ScopeRow → ℕ → Open
chain_of rows s = chain s rows s

-- an item with its scopes, by the number of its scope
abbrev pub seen : List ScopeRow → Placed → Located
seen rows x = record { item = x.item; scopes = chain_of rows x.scope }

-- the first row is what is around the program units, and the scope around a scope began before it
pub record AreHosts (rows : List ScopeRow) : Type 0 where
  pub first : row_at rows 0 ≡ outer_row
  pub before : (s : ℕ) → host_in rows (suc s) ≤ s

-- the items stand in so many scopes
abbrev pub AreWithin : ℕ → List Placed → Type 0
AreWithin n [] = Unit {0}
AreWithin n (x ∷ xs) = (x.scope < n) × AreWithin n xs

-- ---- how the table grows along items

abbrev pub opened_rows : List ScopeRow → ℕ → Item → List ScopeRow
opened_rows rows s (Enter k place) = rows ++ record { kind = k; host = s; unit = unit_in rows s } ∷ []
opened_rows rows s _ = rows

abbrev pub opened_at : List ScopeRow → ℕ → Item → ℕ
opened_at rows s (Enter k place) = length rows
opened_at rows s _ = s

abbrev pub closed_at : List ScopeRow → ℕ → Item → ℕ
closed_at rows s Leave = host_in rows s
closed_at rows s _ = s

-- the table behind items, where scope s is open before them
unfoldable pub rows_after : List ScopeRow → ℕ → List Item → List ScopeRow
rows_after rows s [] = rows
rows_after rows s (i ∷ is) = rows_after (opened_rows rows s i) (closed_at (opened_rows rows s i) (opened_at rows s i) i) is

-- the items with the numbers of their scopes
unfoldable pub placed_after : List ScopeRow → ℕ → List Item → List Placed
placed_after rows s [] = []
placed_after rows s (i ∷ is) = record { item = i; scope = opened_at rows s i } ∷ placed_after (opened_rows rows s i) (closed_at (opened_rows rows s i) (opened_at rows s i) i) is
