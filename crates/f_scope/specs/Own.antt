-- What a table says of the names that a scope declares.
use Rattle.std.specs.Prelude.{◌≡◌, ℕ, ◌<◌, List, Option, Some, None}
use Rattle.f_items.specs.Places.{Located, At}
use Rattle.f_items.specs.Declarations.{Declaration, declaration_of, IsDeclared}
use Rattle.f_scope.specs.declared.table.Entry.{Entry}
use Rattle.f_scope.specs.Tables.{Row, entry_at, table_at}

-- the item at place k declares or announces the name in the scope
pub record IsNamed (p : List Located) (scope : ℕ) (name : List ℕ) (k : ℕ) : Type 0 where
  pub item : Located
  pub declaration : Declaration
  pub at : At p k item
  pub declares : declaration_of item ≡ Some declaration
  pub scope_is : declaration.scope ≡ scope
  pub name_is : declaration.what.name.bytes ≡ name

-- the first place at which the scope declares the name, or that there is none
abbrev pub IsTold : List Located → ℕ → List ℕ → Option ℕ → Type 0
IsTold p scope name None = (k : ℕ) → IsDeclared p scope name k → ⊥
IsTold p scope name (Some k) = IsDeclared p scope name k × ((j : ℕ) → j < k → IsDeclared p scope name j → ⊥)

-- an entry of a name: where it is named first, and where it is declared first
pub record IsEntry (p : List Located) (scope : ℕ) (name : List ℕ) (e : Entry) : Type 0 where
  pub first : IsNamed p scope name e.first
  pub none_before : (j : ℕ) → j < e.first → IsNamed p scope name j → ⊥
  pub told : IsTold p scope name e.told

abbrev pub IsLooked : List Located → ℕ → List ℕ → Option Entry → Type 0
IsLooked p scope name None = (k : ℕ) → IsNamed p scope name k → ⊥
IsLooked p scope name (Some e) = IsEntry p scope name e

-- the tables of so many scopes say of each name where each declares it
abbrev pub AreOwn : List Located → List (List Row) → ℕ → Type 0
AreOwn p tables count = (scope : ℕ) → scope < count → (name : List ℕ) → IsLooked p scope name (entry_at name (table_at tables scope))
