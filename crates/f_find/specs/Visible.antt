-- Names by the scopes around an item.
use Rattle.std.specs.Prelude.{◌≡◌, ℕ, List, Option, Bool, true, false}
use Rattle.f_items.specs.declared.item.ScopeKind.{ScopeKind}
use Rattle.f_items.specs.declared.item.ScopeKind.TheVariants as kind
use Rattle.f_items.specs.Places.{Located, around, scope_of, At}
use Rattle.f_items.specs.Accessible.{Visible}
use Rattle.f_use.specs.declared.origins.Origins.{Origins}
use Rattle.f_use.specs.Associated.{Found}

-- names are sought in the scope itself
abbrev pub has_names : ScopeKind → Bool
has_names kind.DerivedType = false
has_names _ = true

abbrev pub is_interface_body : ScopeKind → Bool
is_interface_body kind.InterfaceBody = true
is_interface_body _ = false

-- what the name denotes where an item of the scope stands
abbrev pub IsVisible : List Located → ℕ → List ℕ → Option Origins → Type 0
IsVisible p scope name r = (k : ℕ) (l : Located) → At p k l → (scope_of l).number ≡ scope → Found (Visible p l.scopes name) r

-- what it denotes in the scope around
abbrev pub IsVisibleAround : List Located → ℕ → List ℕ → Option Origins → Type 0
IsVisibleAround p scope name r = (k : ℕ) (l : Located) → At p k l → (scope_of l).number ≡ scope → Found (Visible p (around l.scopes) name) r
