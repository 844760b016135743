-- Which names are accessible in a scope: by its own declarations, by use association, by host association and by IMPORT
-- (ISO/IEC 1539-1:2018, 14.2.2, 19.5.1.3, 19.5.1.4, 8.5.2, 8.6.1 and 8.8).
use Rattle.std.specs.Prelude.{◌≡◌, ℕ, List, [], ◌∷◌, Option, Some, None, Bool, true, false, ◌⊎◌, ◌==◌, ◌&&◌, if◌then◌else◌}
use Rattle.std.specs.Str.{bytes_eq}
use Rattle.jf_base.specs.declared.place.Place.{Place}
use Rattle.f_items.specs.declared.item.Name.{Name}
use Rattle.f_items.specs.declared.item.Item.{Item}
use Rattle.f_items.specs.declared.item.Item.TheVariants.{Declares, Uses, Takes, ImportsAll, Imports, Default, Accesses}
use Rattle.f_items.specs.declared.item.Access.{Access}
use Rattle.f_items.specs.declared.item.Access.TheVariants.{Public, Private}
use Rattle.f_items.specs.declared.item.Class.TheVariants as class
use Rattle.f_items.specs.declared.item.Declared.{Declared}
use Rattle.f_items.specs.declared.item.ScopeKind.{ScopeKind}
use Rattle.f_items.specs.declared.item.ScopeKind.TheVariants as kind
use Rattle.f_items.specs.Places.{Scope, Open, Located, scope_of, At}
use Rattle.f_items.specs.Declarations.{Declaration, declaration_of, IsOwn}

-- an item stands in the list, in this scope
pub record Stands (p : List Located) (scope : ℕ) (item : Item) : Type 0 where
  pub place : ℕ
  pub located : Located
  pub at : At p place located
  pub item_is : located.item ≡ item
  pub scope_is : (scope_of located).number ≡ scope

-- ---- modules

-- the module of a name is the scope with this number
pub record IsModule (p : List Located) (name : List ℕ) (scope : ℕ) : Type 0 where
  pub place : ℕ
  pub located : Located
  pub what : Declared
  pub at : At p place located
  pub item_is : located.item ≡ Declares what
  pub scope_is : (scope_of located).number ≡ scope
  pub module_scope : (scope_of located).kind ≡ kind.Module
  pub unit_name : what.class ≡ class.UnitName
  pub name_is : what.name.bytes ≡ name

-- ---- accessibility (8.5.2 and 8.6.1)

abbrev pub or_else : {A : Type 0} → Option A → Option A → Option A
or_else None other = other
or_else (Some x) other = Some x

-- what a declaration says of a name's accessibility
abbrev pub access_declared : ℕ → List ℕ → Option Declaration → Option Access
access_declared m name None = None
access_declared m name (Some d) = if (d.scope == m) && bytes_eq name d.what.name.bytes then d.what.access else None

-- what an access statement says of it
abbrev pub access_stated : ℕ → List ℕ → Item → ℕ → Option Access
access_stated m name (Accesses n a) here = if (here == m) && bytes_eq name n.bytes then Some a else None
access_stated m name _ here = None

-- the accessibility that is said of a name in module m
unfoldable pub access_said : ℕ → List ℕ → List Located → Option Access
access_said m name [] = None
access_said m name (l ∷ ls) = or_else (access_declared m name (declaration_of l)) (or_else (access_stated m name l.item (scope_of l).number) (access_said m name ls))

abbrev pub default_stated : ℕ → Item → ℕ → Option Access
default_stated m (Default a) here = if here == m then Some a else None
default_stated m _ here = None

-- the accessibility of a module's other names: PUBLIC, if nothing else is said
unfoldable pub default_access : ℕ → List Located → Access
default_access m [] = Public
default_access m (l ∷ ls) = default_before (default_stated m l.item (scope_of l).number) (default_access m ls) where
  default_before : Option Access → Access → Access
  default_before None other = other
  default_before (Some a) other = a

abbrev pub is_public_access : Access → Bool
is_public_access Public = true
is_public_access Private = false

abbrev pub access_or : Option Access → Access → Access
access_or None other = other
access_or (Some a) other = a

-- the name is public in module m
abbrev pub is_public : List Located → ℕ → List ℕ → Bool
is_public p m name = is_public_access (access_or (access_said m name p) (default_access m p))

-- ---- USE (14.2.2)

-- the USE statements of the scope for this module give what the module calls `used` another name
pub record IsRenamed (p : List Located) (scope : ℕ) (module_name used : List ℕ) : Type 0 where
  pub local_name : Name
  pub used_name : Name
  pub used_is : used_name.bytes ≡ used
  pub takes : Stands p scope (Takes module_name local_name used_name true)

-- what the module calls `used` is called `local` in the scope, by its USE statements for this module
pub data Grants (p : List Located) (scope : ℕ) (module_name : List ℕ) : List ℕ → List ℕ → Type 0 where
  -- it is named behind ONLY
  ByOnly : (l u : Name) → Stands p scope (Takes module_name l u false) → Grants p scope module_name l.bytes u.bytes
  -- it is renamed
  ByRename : (l u : Name) → Stands p scope (Takes module_name l u true) → Grants p scope module_name l.bytes u.bytes
  -- a USE statement without ONLY gives all that isn't renamed
  ByAll : (place : Place) (m : Name) (is_intrinsic : Bool) (used : List ℕ) → m.bytes ≡ module_name → Stands p scope (Uses place m is_intrinsic false)
      → (IsRenamed p scope module_name used → ⊥) → Grants p scope module_name used used

-- the item at place k declares more than the name of a program unit
pub record IsEntity (p : List Located) (k : ℕ) : Type 0 where
  pub item : Located
  pub declaration : Declaration
  pub at : At p k item
  pub declares : declaration_of item ≡ Some declaration
  pub no_unit : declaration.what.class ≡ class.UnitName → ⊥

-- in the scope the name denotes what the item at place k declares: the scope declares it, or a USE statement gives it a public name of a module
pub data Denotes (p : List Located) : ℕ → List ℕ → ℕ → Type 0 where
  Own : (scope : ℕ) (name : List ℕ) (k : ℕ) → IsOwn p scope name k → Denotes p scope name k
  Used : (scope m : ℕ) (module_name local used : List ℕ) (k : ℕ) → Grants p scope module_name local used → IsModule p module_name m
      → is_public p m used ≡ true → IsEntity p k → Denotes p m used k → Denotes p scope local k

-- a USE statement gives the scope the name
pub record IsUsed (p : List Located) (scope : ℕ) (local : List ℕ) (k : ℕ) : Type 0 where
  pub module_name : List ℕ
  pub used : List ℕ
  pub m : ℕ
  pub grants : Grants p scope module_name local used
  pub is_module : IsModule p module_name m
  pub public : is_public p m used ≡ true
  pub entity : IsEntity p k
  pub denotes : Denotes p m used k

-- ---- host association and IMPORT (19.5.1.4 and 8.8)

-- names are sought in a scope itself, but not among the components of a derived type
abbrev pub HasNames : ScopeKind → Type 0
HasNames kind.DerivedType = ⊥
HasNames _ = Unit {0}

-- the scope has no such name
abbrev pub Lacks : List Located → Scope → List ℕ → Type 0
Lacks p s name = HasNames s.kind → (k : ℕ) → Denotes p s.number name k → ⊥

-- an interface body imports the name, or all
abbrev pub IsImported : List Located → ℕ → List ℕ → Type 0
IsImported p scope name = Stands p scope ImportsAll ⊎ ((n : Name) × (n.bytes ≡ name) × Stands p scope (Imports n))

-- the scope sees names of the scope around it: an interface body those alone that it imports
abbrev pub Continues : List Located → Scope → List ℕ → Type 0
Continues p s name = s.kind ≡ kind.InterfaceBody → IsImported p s.number name

-- where these scopes are open, the name denotes what the item at place k declares
pub data Visible (p : List Located) : Open → List ℕ → ℕ → Type 0 where
  -- around the program units, an intrinsic procedure
  Intrinsic : (name : List ℕ) (k : ℕ) → IsOwn p 0 name k → Visible p [] name k
  -- in the innermost scope
  Here : (s : Scope) (ss : Open) (name : List ℕ) (k : ℕ) → HasNames s.kind → Denotes p s.number name k → Visible p (s ∷ ss) name k
  -- in the scopes around it, which it doesn't hide
  Outward : (s : Scope) (ss : Open) (name : List ℕ) (k : ℕ) → Lacks p s name → Continues p s name → Visible p ss name k → Visible p (s ∷ ss) name k
  -- an interface body sees the intrinsic procedures too
  Beyond : (s : Scope) (ss : Open) (name : List ℕ) (k : ℕ) → Lacks p s name → (Continues p s name → ⊥) → Visible p [] name k → Visible p (s ∷ ss) name k
