-- Tables of the names that scopes declare.
use Rattle.std.specs.Prelude.{ℕ, suc, List, [], ◌∷◌, length, Option, Some, None, Bool, true, false, nat_lt, if◌then◌else◌, slice_index_or, slice_set}
use Rattle.std.specs.Str.{bytes_eq}
use Rattle.f_items.specs.declared.item.Share.{Share}
use Rattle.f_items.specs.declared.item.Share.TheVariants.{Whole, Announced, Typed}
use Rattle.f_items.specs.Declarations.{Declaration, declared_by}
use Rattle.f_scope.specs.declared.placement.ScopeRow.{ScopeRow}
use Rattle.f_scope.specs.declared.placement.Placed.{Placed}
use Rattle.f_scope.specs.declared.table.Entry.{Entry}
use Rattle.f_scope.specs.Rows.{host_in}

-- a name with its entry
abbrev pub Row : Type 0
Row = List ℕ × Entry

-- the entry of a name, or none
unfoldable pub entry_at : List ℕ → List Row → Option Entry
entry_at name [] = None
entry_at name (r ∷ rs) = if bytes_eq name r.0 then Some r.1 else entry_at name rs

-- the table in which a name has this entry
unfoldable pub put : List Row → List ℕ → Entry → List Row
put [] name e = (name, e) ∷ []
put (r ∷ rs) name e = if bytes_eq name r.0 then (r.0, e) ∷ rs else r ∷ put rs name e

abbrev pub or_else : {A : Type 0} → Option A → Option A → Option A
or_else None other = other
or_else (Some x) other = Some x

abbrev pub told_by : Bool → ℕ → Option ℕ
told_by true place = Some place
told_by false place = None

-- an entry, behind one more declaration at this place
abbrev pub entry_with : Option Entry → ℕ → Bool → Entry
entry_with None place tells = record { first = place; told = told_by tells place }
entry_with (Some e) place tells = record { first = e.first; told = or_else e.told (told_by tells place) }

-- a table, behind one more declaration at this place
abbrev pub noted : List Row → List ℕ → ℕ → Bool → List Row
noted rows name place tells = put rows name (entry_with (entry_at name rows) place tells)

-- the declaration tells what the name is
abbrev pub tells_share : Share → Bool
tells_share Whole = true
tells_share Announced = false
tells_share Typed = true

-- ---- the tables of all scopes

abbrev pub table_at : List (List Row) → ℕ → List Row
table_at tables scope = slice_index_or tables scope []

-- what an item declares, by the number of its scope
abbrev pub declared_at : List ScopeRow → Placed → Option Declaration
declared_at rows x = declared_by x.item x.scope (host_in rows x.scope)

abbrev pub noted_in : List (List Row) → ℕ → Option Declaration → List (List Row)
noted_in tables place None = tables
noted_in tables place (Some d) = if nat_lt d.scope (length tables) then slice_set tables d.scope (noted (table_at tables d.scope) d.what.name.bytes place (tells_share d.what.share)) else tables

-- the tables behind items, the first of which stands at this place
unfoldable pub noted_all : List ScopeRow → List (List Row) → ℕ → List Placed → List (List Row)
noted_all rows tables place [] = tables
noted_all rows tables place (x ∷ xs) = noted_all rows (noted_in tables place (declared_at rows x)) (suc place) xs
