-- One scope on the way outward.
use Rattle.std.specs.Prelude.{◌≡◌, ℕ, List, Option, Some, None, length}
use Rattle.f_items.specs.declared.item.ScopeKind.{ScopeKind}
use Rattle.f_items.specs.declared.item.ScopeKind.TheVariants as kind
use Rattle.f_items.specs.Places.{Located}
use Rattle.f_items.specs.Accessible.{HasNames, Denotes, IsImported}
use Rattle.f_scope.specs.declared.placement.ScopeRow.{ScopeRow}
use Rattle.f_scope.specs.Rows.{AreHosts}
use Rattle.f_scope.specs.Program.{Outline}
use Rattle.f_use.specs.declared.origins.Origins.{Origins}
use Rattle.f_use.specs.Associated.{Found}

-- what the name denotes in a scope of this kind
abbrev pub FoundIn : List Located → ScopeKind → ℕ → List ℕ → Option Origins → Type 0
FoundIn p k scope name None = HasNames k → (j : ℕ) → Denotes p scope name j → ⊥
FoundIn p k scope name (Some o) = HasNames k × Found (Denotes p scope name) (Some o)

-- names of the scope around are seen
abbrev pub GoesOn : List Located → ScopeKind → ℕ → List ℕ → Type 0
GoesOn p k scope name = k ≡ kind.InterfaceBody → IsImported p scope name

-- the rows are those of the program's scopes
pub record AreRows (o : Outline) (rows : List ScopeRow) : Type 0 where
  pub hosts : AreHosts rows
  pub scopes_are : length rows ≡ o.scopes
