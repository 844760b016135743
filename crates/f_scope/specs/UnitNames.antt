-- The names of programs and modules.
use Rattle.std.specs.Prelude.{ℕ, suc, List, [], ◌∷◌, Option, Some, None, Bool, true, false, if◌then◌else◌}
use Rattle.f_items.specs.declared.item.Item.{Item}
use Rattle.f_items.specs.declared.item.Item.TheVariants.{Declares}
use Rattle.f_items.specs.declared.item.Class.{Class}
use Rattle.f_items.specs.declared.item.Class.TheVariants as class
use Rattle.f_items.specs.Places.{Located}
use Rattle.f_items.specs.Scoped.{NamesUnit, IsFirst, IsNamedTwice}
use Rattle.f_scope.specs.declared.placement.Placed.{Placed}
use Rattle.f_scope.specs.declared.table.Entry.{Entry}
use Rattle.f_scope.specs.Tables.{Row, entry_at, noted}

abbrev pub is_unit_name : Class → Bool
is_unit_name class.UnitName = true
is_unit_name _ = false

-- the name of a program or a module, where an item declares it
abbrev pub unit_named : Item → Option (List ℕ)
unit_named (Declares d) = if is_unit_name d.class then Some d.name.bytes else None
unit_named _ = None

-- ---- along items

abbrev pub Scan : Type 0
Scan = Option ℕ × List Row

abbrev pub scan_new : Option Entry → List ℕ → List Row → ℕ → (List Row → Scan) → Scan
scan_new None name rows place behind = behind (noted rows name place true)
scan_new (Some e) name rows place behind = (Some place, rows)

abbrev pub scan_name : Option (List ℕ) → List Row → ℕ → (List Row → Scan) → Scan
scan_name None rows place behind = behind rows
scan_name (Some name) rows place behind = scan_new (entry_at name rows) name rows place behind

-- the first place at which a name stands again, and the table of the names before it
unfoldable pub scan_units : List Row → ℕ → List Placed → Scan
scan_units rows place [] = (None, rows)
scan_units rows place (x ∷ xs) = scan_name (unit_named x.item) rows place (λ rows. scan_units rows (suc place) xs)

-- ---- what it means

-- the unit of this name is named at the entry's first place
abbrev pub IsUnitEntry : List Located → List ℕ → Option Entry → Type 0
IsUnitEntry p name None = (k : ℕ) → NamesUnit p k name → ⊥
IsUnitEntry p name (Some e) = NamesUnit p e.first name

-- the table has the place of each unit's name, and no two units have one name
pub record AreUnits (p : List Located) (rows : List Row) : Type 0 where
  pub entries : (name : List ℕ) → IsUnitEntry p name (entry_at name rows)
  pub once : (k : ℕ) → IsNamedTwice p k → ⊥

-- what is found: the first place at which a unit has the name of another, or the table
abbrev pub UnitsFound : List Located → Option ℕ → List Row → Type 0
UnitsFound p None rows = AreUnits p rows
UnitsFound p (Some k) rows = IsFirst (IsNamedTwice p) k
