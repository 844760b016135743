-- What items say of names, and where a scope says something first.
use Rattle.std.specs.Prelude.{◌≡◌, ◌<◌, ℕ, suc, List, [], ◌∷◌, length, Option, Some, None, Bool, true, nat_lt, is_some, if◌then◌else◌, slice_set, slice_get}
use Rattle.f_items.specs.declared.item.Access.{Access}
use Rattle.f_items.specs.declared.item.Declared.{Declared}
use Rattle.f_items.specs.declared.item.Item.{Item}
use Rattle.f_items.specs.declared.item.Item.TheVariants.{Declares, Heads, Takes, ImportsAll, Imports, Default, Accesses}
use Rattle.f_items.specs.Places.{Located, scope_of, host_of, At}
use Rattle.f_scope.specs.declared.placement.ScopeRow.{ScopeRow}
use Rattle.f_scope.specs.declared.placement.Placed.{Placed}
use Rattle.f_scope.specs.declared.table.Entry.{Entry}
use Rattle.f_scope.specs.Rows.{host_in}
use Rattle.f_scope.specs.Tables.{Row, entry_at, table_at, noted}
use Rattle.f_stated.specs.declared.said.Saying.{Saying}
use Rattle.f_stated.specs.declared.said.Saying.TheVariants as saying

-- a scope, and of what in it something is said
abbrev pub Key : Type 0
Key = ℕ × List ℕ

-- a module's name and a name in it: a zero stands between them, and a one before each byte of the first
unfoldable pub renaming_key : List ℕ → List ℕ → List ℕ
renaming_key [] used = 0 ∷ used
renaming_key (b ∷ bs) used = 1 ∷ b ∷ renaming_key bs used

abbrev pub declared_key : ℕ → Declared → Option Key
declared_key scope d = if is_some d.access then Some (scope, d.name.bytes) else None

abbrev pub access_key : Item → ℕ → ℕ → Option Key
access_key (Declares d) here host = declared_key here d
access_key (Heads d) here host = declared_key host d
access_key (Accesses n a) here host = Some (here, n.bytes)
access_key _ here host = None

abbrev pub default_key : Item → ℕ → Option Key
default_key (Default a) here = Some (here, [])
default_key _ here = None

abbrev pub import_key : Item → ℕ → Option Key
import_key (Imports n) here = Some (here, n.bytes)
import_key _ here = None

abbrev pub whole_import_key : Item → ℕ → Option Key
whole_import_key ImportsAll here = Some (here, [])
whole_import_key _ here = None

abbrev pub renaming_key_of : Item → ℕ → Option Key
renaming_key_of (Takes m l u r) here = if r then Some (here, renaming_key m u.bytes) else None
renaming_key_of _ here = None

-- of what in which scope an item says this, by the scope in which it stands and the scope around that
abbrev pub key_by : Saying → Item → ℕ → ℕ → Option Key
key_by saying.Access i here host = access_key i here host
key_by saying.DefaultAccess i here host = default_key i here
key_by saying.Import i here host = import_key i here
key_by saying.WholeImport i here host = whole_import_key i here
key_by saying.Renaming i here host = renaming_key_of i here

abbrev pub key_of : Saying → Located → Option Key
key_of s l = key_by s l.item (scope_of l).number (host_of l).number

abbrev pub key_at : Saying → List ScopeRow → Placed → Option Key
key_at s rows x = key_by s x.item x.scope (host_in rows x.scope)

-- ---- where it is said first

-- the item at place k says this of the key in the scope
pub record Says (s : Saying) (p : List Located) (scope : ℕ) (key : List ℕ) (k : ℕ) : Type 0 where
  pub located : Located
  pub at : At p k located
  pub says : key_of s located ≡ Some (scope, key)

-- the first place at which it is said, or that there is none
abbrev pub IsSaid : Saying → List Located → ℕ → List ℕ → Option Entry → Type 0
IsSaid s p scope key None = (k : ℕ) → Says s p scope key k → ⊥
IsSaid s p scope key (Some e) = Says s p scope key e.first × ((j : ℕ) → j < e.first → Says s p scope key j → ⊥)

-- the tables of so many scopes tell where each says it first
abbrev pub AreSaid : Saying → List Located → List (List Row) → ℕ → Type 0
AreSaid s p tables count = (scope : ℕ) → scope < count → (key : List ℕ) → IsSaid s p scope key (entry_at key (table_at tables scope))

abbrev pub first_of : Option Entry → Option ℕ
first_of None = None
first_of (Some e) = Some e.first

-- ---- along items

abbrev pub noted_key : List (List Row) → ℕ → Option Key → List (List Row)
noted_key tables place None = tables
noted_key tables place (Some k) = if nat_lt k.0 (length tables) then slice_set tables k.0 (noted (table_at tables k.0) k.1 place true) else tables

-- the tables behind items, the first of which stands at this place
unfoldable pub noted_keys : Saying → List ScopeRow → List (List Row) → ℕ → List Placed → List (List Row)
noted_keys s rows tables place [] = tables
noted_keys s rows tables place (x ∷ xs) = noted_keys s rows (noted_key tables place (key_at s rows x)) (suc place) xs

-- ---- accessibility

-- what an item says of a name's accessibility
abbrev pub access_in : Item → Option Access
access_in (Declares d) = d.access
access_in (Heads d) = d.access
access_in (Accesses n a) = Some a
access_in _ = None

abbrev pub access_of : Option Placed → Option Access
access_of None = None
access_of (Some x) = access_in x.item

abbrev pub access_at : List Placed → Option ℕ → Option Access
access_at xs None = None
access_at xs (Some k) = access_of (slice_get xs k)

-- and of all other names'
abbrev pub default_in : Item → Option Access
default_in (Default a) = Some a
default_in _ = None

abbrev pub default_of : Option Placed → Option Access
default_of None = None
default_of (Some x) = default_in x.item

abbrev pub default_at : List Placed → Option ℕ → Option Access
default_at xs None = None
default_at xs (Some k) = default_of (slice_get xs k)
