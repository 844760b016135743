-- What is known of a program: its items with their scopes, what each scope declares, and its modules.
use Rattle.std.specs.Prelude.{◌≡◌, ℕ, List, Option, Some, None, Bool, true, false, if◌then◌else◌, slice_get, length, map}
use Rattle.f_items.specs.declared.item.ScopeKind.{ScopeKind}
use Rattle.f_items.specs.declared.item.ScopeKind.TheVariants as kind
use Rattle.f_items.specs.Places.{Located}
use Rattle.f_items.specs.Accessible.{IsModule}
use Rattle.f_items.specs.Scoped.{IsNamedTwice}
use Rattle.f_scope.specs.declared.placement.ScopeRow.{ScopeRow}
use Rattle.f_scope.specs.declared.placement.Placed.{Placed}
use Rattle.f_scope.specs.declared.table.Entry.{Entry}
use Rattle.f_scope.specs.Rows.{row_at, AreHosts, AreWithin, seen}
use Rattle.f_scope.specs.Tables.{Row}
use Rattle.f_scope.specs.Own.{AreOwn}
use Rattle.f_scope.specs.UnitNames.{AreUnits}

-- the items of a program, and how many scopes it has
pub record Outline : Type 0 where
  pub items : List Located
  pub scopes : ℕ

abbrev pub outline_of : List ScopeRow → List Placed → Outline
outline_of rows xs = record { items = map (seen rows) xs; scopes = length rows }

-- the tables are those of the program, and no two of its units have one name
pub record AreTables (rows : List ScopeRow) (xs : List Placed) (own : List (List Row)) (units : List Row) : Type 0 where
  pub hosts : AreHosts rows
  pub within : AreWithin (length rows) xs
  pub own_are : AreOwn (map (seen rows) xs) own (length rows)
  pub units_are : AreUnits (map (seen rows) xs) units

-- the scopes, the items and the tables of what each scope declares are those of the program, in which no two units have one name
pub record AreParts (o : Outline) (rows : List ScopeRow) (xs : List Placed) (own : List (List Row)) : Type 0 where
  pub items_are : map (seen rows) xs ≡ o.items
  pub scopes_are : length rows ≡ o.scopes
  pub hosts : AreHosts rows
  pub within : AreWithin (length rows) xs
  pub own_are : AreOwn (map (seen rows) xs) own (length rows)
  pub once : (k : ℕ) → IsNamedTwice (map (seen rows) xs) k → ⊥

abbrev pub is_module_kind : ScopeKind → Bool
is_module_kind kind.Module = true
is_module_kind _ = false

-- the scope of an item, where that is a module's
abbrev pub module_of : List ScopeRow → Option Placed → Option ℕ
module_of rows None = None
module_of rows (Some x) = if is_module_kind (row_at rows x.scope).kind then Some x.scope else None

-- the scope of the module that is named where an entry says
abbrev pub module_at : List ScopeRow → List Placed → Option Entry → Option ℕ
module_at rows xs None = None
module_at rows xs (Some e) = module_of rows (slice_get xs e.first)

-- the first item that declares a name with this entry
abbrev pub told_of : Option Entry → Option ℕ
told_of None = None
told_of (Some e) = e.told

-- the module of a name, or that there is none
abbrev pub ModuleFound : List Located → List ℕ → Option ℕ → Type 0
ModuleFound p name None = (m : ℕ) → IsModule p name m → ⊥
ModuleFound p name (Some m) = IsModule p name m
