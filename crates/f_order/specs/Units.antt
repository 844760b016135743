-- The program unit of each scope.
use Rattle.std.specs.Prelude.{◌≡◌, ◌<◌, ℕ, List, Option, Some, None, Bool, false, ◌&&◌, ◌==◌, if◌then◌else◌, slice_index_or}
use Rattle.f_items.specs.declared.item.Item.{Item}
use Rattle.f_items.specs.declared.item.Item.TheVariants.{Declares}
use Rattle.f_items.specs.Places.{Located, outermost, last_of, scope_of, unit_of, At}
use Rattle.f_items.specs.Order.{IsInUnit, UsesModule}
use Rattle.f_scope.specs.declared.placement.ScopeRow.{ScopeRow}
use Rattle.f_scope.specs.declared.placement.Placed.{Placed}
use Rattle.f_scope.specs.Program.{Outline, is_module_kind}
use Rattle.f_scope.specs.Rows.{row_at, chain_of}
use Rattle.f_scope.specs.UnitNames.{is_unit_name}
use Rattle.f_order.specs.declared.units.Edge.{Edge}

abbrev pub number_at : List ℕ → ℕ → ℕ
number_at units s = slice_index_or units s 0

-- the unit of a scope by the rows
abbrev pub unit_number : List ScopeRow → ℕ → ℕ
unit_number rows s = (last_of outermost (chain_of rows s)).number

-- the unit of scope s, where the scope around it and its unit are known
abbrev pub unit_by : List ℕ → ℕ → ℕ → ℕ
unit_by units host s = if s == 0 then 0 else (if host == 0 then s else number_at units host)

-- the units of the first scopes
abbrev pub AreNumbers : List ScopeRow → List ℕ → ℕ → Type 0
AreNumbers rows units n = (s : ℕ) → s < n → number_at units s ≡ unit_number rows s

-- the units of all scopes, which are scopes of the program
pub record AreUnits (o : Outline) (units : List ℕ) : Type 0 where
  pub numbers : (k : ℕ) (l : Located) → At o.items k l → number_at units (scope_of l).number ≡ unit_of l
  pub within : (k : ℕ) (l : Located) → At o.items k l → unit_of l < o.scopes
  pub inside : (k : ℕ) (l : Located) → At o.items k l → (scope_of l).number < o.scopes

-- ---- what stands at a place

-- the unit of the item
abbrev pub UnitFound : List Located → ℕ → Option ℕ → Type 0
UnitFound p k None = (l : Located) → At p k l → ⊥
UnitFound p k (Some u) = (l : Located) × At p k l × (unit_of l ≡ u)

-- the item at place k names a module, which is in this unit
pub record NamesModule (p : List Located) (k u : ℕ) : Type 0 where
  pub name : List ℕ
  pub in_unit : IsInUnit p name u
  pub place_is : in_unit.is_module.place ≡ k

abbrev pub is_module_name : Item → Bool
is_module_name (Declares d) = is_unit_name d.class
is_module_name _ = false

abbrev pub names_module : List ScopeRow → Placed → Bool
names_module rows x = is_module_name x.item && is_module_kind (row_at rows x.scope).kind

abbrev pub ModuleFound : List Located → ℕ → Option ℕ → Type 0
ModuleFound p k None = (u : ℕ) → NamesModule p k u → ⊥
ModuleFound p k (Some u) = NamesModule p k u × ((v : ℕ) → NamesModule p k v → v ≡ u)

-- which unit depends on which by the item
abbrev pub EdgeFound : List Located → ℕ → Option Edge → Type 0
EdgeFound p k None = (u m : ℕ) → UsesModule p k u m → ⊥
EdgeFound p k (Some e) = UsesModule p k e.unit e.module_unit × ((u m : ℕ) → UsesModule p k u m → (u ≡ e.unit) × (m ≡ e.module_unit))
