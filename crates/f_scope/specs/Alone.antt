-- The rules that an item breaks whatever is accessible.
use Rattle.std.specs.Prelude.{◌≡◌, ℕ, List, Option, Some, None, Bool, false, not, nat_lt, if◌then◌else◌, is_some}
use Rattle.f_items.specs.declared.item.Share.{Share}
use Rattle.f_items.specs.declared.item.Share.TheVariants.{Whole, Announced, Typed}
use Rattle.f_items.specs.Places.{Located, At}
use Rattle.f_items.specs.Declarations.{Declaration, declaration_of, IsDeclared}
use Rattle.f_items.specs.Rules.{IsTwice}
use Rattle.f_scope.specs.declared.placement.ScopeRow.{ScopeRow}
use Rattle.f_scope.specs.declared.placement.Placed.{Placed}
use Rattle.f_scope.specs.declared.table.Entry.{Entry}
use Rattle.f_scope.specs.Tables.{Row, entry_at, table_at, declared_at}
use Rattle.f_scope.specs.declared.name_rule.Rule.{Rule}
use Rattle.f_scope.specs.declared.name_rule.Rule.TheVariants.{DeclaredOnce, Declared}

-- what a declaration's item breaks by itself
pub data BreaksDeclared (p : List Located) (k : ℕ) (d : Declaration) : Rule → Type 0 where
  Twice : IsTwice p k d → BreaksDeclared p k d DeclaredOnce
  Lacking : d.what.share ≡ Announced → ((j : ℕ) → IsDeclared p d.scope d.what.name.bytes j → ⊥) → BreaksDeclared p k d Declared

-- the least of them, or none
abbrev pub DeclaredFound : List Located → ℕ → Declaration → Option Rule → Type 0
DeclaredFound p k d None = (rule : Rule) → BreaksDeclared p k d rule → ⊥
DeclaredFound p k d (Some DeclaredOnce) = IsTwice p k d
DeclaredFound p k d (Some Declared) = (IsTwice p k d → ⊥) × BreaksDeclared p k d Declared

-- ---- by an entry of the name

abbrev pub told_before : Option ℕ → ℕ → Bool
told_before None k = false
told_before (Some t) k = nat_lt t k

-- another declaration stands before
abbrev pub is_twice : Entry → ℕ → Share → Bool
is_twice e k Whole = nat_lt e.first k
is_twice e k Announced = nat_lt e.first k
is_twice e k Typed = told_before e.told k

-- it is announced alone
abbrev pub is_lacking : Entry → Share → Bool
is_lacking e Whole = false
is_lacking e Announced = not (is_some e.told)
is_lacking e Typed = false

abbrev pub broken_by : Option Entry → ℕ → Share → Option Rule
broken_by None k s = None
broken_by (Some e) k s = if is_twice e k s then Some DeclaredOnce else (if is_lacking e s then Some Declared else None)

-- by the tables of all scopes
abbrev pub broken_declaration : List (List Row) → Option Declaration → ℕ → Option Rule
broken_declaration own None k = None
broken_declaration own (Some d) k = broken_by (entry_at d.what.name.bytes (table_at own d.scope)) k d.what.share

abbrev pub broken_item : List ScopeRow → List (List Row) → Option Placed → ℕ → Option Rule
broken_item rows own None k = None
broken_item rows own (Some x) k = broken_declaration own (declared_at rows x) k

-- what the item at place k breaks by its declaration, where it has one
abbrev pub DeclarationFound : List Located → ℕ → Option Rule → Type 0
DeclarationFound p k r = (l : Located) (d : Declaration) → At p k l → declaration_of l ≡ Some d → DeclaredFound p k d r
