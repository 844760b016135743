-- What USE statements give a scope (ISO/IEC 1539-1:2018, 14.2.2).
use Rattle.std.specs.Prelude.{◌≡◌, ℕ, ◌<◌, List, Option, Some, None, Bool, true, false, if◌then◌else◌, slice_get}
use Rattle.f_items.specs.declared.item.Item.{Item}
use Rattle.f_items.specs.declared.item.Item.TheVariants.{Declares, Heads, Uses, Takes}
use Rattle.f_items.specs.declared.item.Class.{Class}
use Rattle.f_items.specs.Places.{Located, At}
use Rattle.f_items.specs.Declarations.{IsOwn}
use Rattle.f_items.specs.Accessible.{IsModule, IsRenamed, IsEntity, IsUsed, Denotes, is_public}
use Rattle.f_scope.specs.declared.placement.Placed.{Placed}
use Rattle.f_scope.specs.Program.{Outline}
use Rattle.f_scope.specs.Tables.{Row, entry_at, table_at}
use Rattle.f_scope.specs.UnitNames.{is_unit_name}
use Rattle.f_use.specs.Origins.{Member, Covers, Apart}
use Rattle.f_use.specs.Places.{Among}

-- ---- the table of a scope

-- the table has the names that the scope gets by USE, and from which entities
pub record IsExact (p : List Located) (scope : ℕ) (rows : List Row) : Type 0 where
  pub sound : (name : List ℕ) (k : ℕ) → Member (entry_at name rows) k → IsUsed p scope name k
  pub complete : (name : List ℕ) (k : ℕ) → IsUsed p scope name k → Covers (entry_at name rows) k
  pub apart : (name : List ℕ) → Apart (entry_at name rows)

-- ---- what a module gives

-- an entity that a name denotes in the module and that is accessible outside it
pub record Granted (p : List Located) (m : ℕ) (used : List ℕ) (k : ℕ) : Type 0 where
  pub public : is_public p m used ≡ true
  pub entity : IsEntity p k
  pub denotes : Denotes p m used k

abbrev pub From : List Located → ℕ → List ℕ → List ℕ → List ℕ → ℕ → Type 0
From p m used local n k = (n ≡ local) × Granted p m used k

-- the entity that the scope itself declares, or that there is none
abbrev pub OwnEntity : List Located → ℕ → List ℕ → Option ℕ → Type 0
OwnEntity p scope name None = (k : ℕ) → IsOwn p scope name k → IsEntity p k → ⊥
OwnEntity p scope name (Some k) = IsOwn p scope name k × IsEntity p k

abbrev pub class_in : Item → Option Class
class_in (Declares d) = Some d.class
class_in (Heads d) = Some d.class
class_in _ = None

abbrev pub declared_class : Option Placed → Option Class
declared_class None = None
declared_class (Some x) = class_in x.item

abbrev pub entity_in : Option Class → ℕ → Option ℕ
entity_in None k = None
entity_in (Some c) k = if is_unit_name c then None else Some k

abbrev pub entity_at : List Placed → Option ℕ → Option ℕ
entity_at xs None = None
entity_at xs (Some k) = entity_in (declared_class (slice_get xs k)) k

-- ---- by a name of the module that the scope doesn't rename

abbrev pub AllGiven : List Located → ℕ → List ℕ → ℕ → List ℕ → ℕ → Type 0
AllGiven p scope module_name m n k = (IsRenamed p scope module_name n → ⊥) × Granted p m n k

abbrev pub Unrenamed : List Located → ℕ → List ℕ → ℕ → List ℕ → List ℕ → ℕ → Type 0
Unrenamed p scope module_name m name n k = (n ≡ name) × AllGiven p scope module_name m n k

-- the name with this number in a table
pub record RowGives (p : List Located) (scope : ℕ) (module_name : List ℕ) (m : ℕ) (rows : List Row) (i : ℕ) (n : List ℕ) (k : ℕ) : Type 0 where
  pub row : Row
  pub at : slice_get rows i ≡ Some row
  pub name_is : row.0 ≡ n
  pub given : AllGiven p scope module_name m n k

-- the names with smaller numbers
pub record RowsGive (p : List Located) (scope : ℕ) (module_name : List ℕ) (m : ℕ) (rows : List Row) (count : ℕ) (n : List ℕ) (k : ℕ) : Type 0 where
  pub number : ℕ
  pub below : number < count
  pub gives : RowGives p scope module_name m rows number n k

-- ---- by USE statements

-- the module of a name, which is one of the program's scopes, or that there is none
abbrev pub ModuleIn : Outline → List ℕ → Option ℕ → Type 0
ModuleIn o name None = (m : ℕ) → IsModule o.items name m → ⊥
ModuleIn o name (Some m) = IsModule o.items name m × (m < o.scopes) × ((t : ℕ) → IsModule o.items name t → t ≡ m)

-- what a name in a USE statement gives
abbrev pub OneTaken : List Located → List ℕ → List ℕ → List ℕ → List ℕ → ℕ → Type 0
OneTaken p module_name local used n k = (n ≡ local) × ((m : ℕ) × IsModule p module_name m × Granted p m used k)

-- what a USE statement without ONLY gives
abbrev pub AllTaken : List Located → ℕ → List ℕ → List ℕ → ℕ → Type 0
AllTaken p scope module_name n k = (m : ℕ) × IsModule p module_name m × AllGiven p scope module_name m n k

-- what an item gives
abbrev pub ItemGives : List Located → ℕ → Item → List ℕ → ℕ → Type 0
ItemGives p scope (Uses place m i o) n k = (o ≡ false) × AllTaken p scope m.bytes n k
ItemGives p scope (Takes m l u r) n k = OneTaken p m l.bytes u.bytes n k
ItemGives p scope _ n k = ⊥

-- what the item at a place gives
pub record PlaceGives (p : List Located) (scope place : ℕ) (n : List ℕ) (k : ℕ) : Type 0 where
  pub located : Located
  pub at : At p place located
  pub gives : ItemGives p scope located.item n k

-- what the items at these places give
pub record PlacesGive (p : List Located) (scope : ℕ) (places : List ℕ) (n : List ℕ) (k : ℕ) : Type 0 where
  pub place : ℕ
  pub among : Among places place
  pub gives : PlaceGives p scope place n k

-- ---- which tables have to be known

-- the module that an item names
abbrev pub ItemUses : List Located → Item → ℕ → Type 0
ItemUses p (Uses place m i o) t = IsModule p m.bytes t
ItemUses p (Takes m l u r) t = IsModule p m t
ItemUses p _ t = ⊥

abbrev pub IsKnown : List Located → List ℕ → List (List Row) → Type 0
IsKnown p module_name tables = (t : ℕ) → IsModule p module_name t → IsExact p t (table_at tables t)

abbrev pub IsItemKnown : List Located → List (List Row) → Item → Type 0
IsItemKnown p tables i = (t : ℕ) → ItemUses p i t → IsExact p t (table_at tables t)

abbrev pub IsPlaceKnown : List Located → List (List Row) → ℕ → Type 0
IsPlaceKnown p tables place = (l : Located) → At p place l → IsItemKnown p tables l.item

abbrev pub ArePlacesKnown : List Located → List (List Row) → List ℕ → Type 0
ArePlacesKnown p tables places = (k : ℕ) → Among places k → IsPlaceKnown p tables k
