-- What is known of a program whose USE statements are resolved.
use Rattle.std.specs.Prelude.{◌≡◌, ℕ, ◌<◌, List, [], ◌∷◌, length, Option, Some, None}
use Rattle.f_items.specs.Places.{Located, scope_of, At}
use Rattle.f_items.specs.Accessible.{IsUsed, Denotes}
use Rattle.f_scope.specs.Program.{Outline}
use Rattle.f_scope.specs.Tables.{Row, table_at}
use Rattle.f_use.specs.declared.origins.Origins.{Origins}
use Rattle.f_use.specs.Places.{Among}
use Rattle.f_use.specs.Uses.{IsExact, ItemUses}

-- ---- an order of scopes

-- a USE statement in the scope names the module
pub record ScopeUses (p : List Located) (scope m : ℕ) : Type 0 where
  pub place : ℕ
  pub located : Located
  pub at : At p place located
  pub scope_is : (scope_of located).number ≡ scope
  pub uses : ItemUses p located.item m

-- each scope stands behind the modules that it uses, where those stand before
abbrev pub IsBehind : List Located → List ℕ → List ℕ → Type 0
IsBehind p done [] = Unit {0}
IsBehind p done (s ∷ ss) = ((m : ℕ) → ScopeUses p s m → Among done m) × IsBehind p (s ∷ done) ss

-- all scopes, each behind the modules that it uses
pub record IsOrder (o : Outline) (order : List ℕ) : Type 0 where
  pub all : (s : ℕ) → s < o.scopes → Among order s
  pub within : (s : ℕ) → Among order s → s < o.scopes
  pub behind : IsBehind o.items [] order

-- ---- what is found

abbrev pub OthersFound : (ℕ → Type 0) → ℕ → Option ℕ → Type 0
OthersFound P first None = (k : ℕ) → P k → k ≡ first
OthersFound P first (Some k) = P k × (k ≡ first → ⊥)

-- one of those with the property, and another if there are several, or that there is none
abbrev pub Found : (ℕ → Type 0) → Option Origins → Type 0
Found P None = (k : ℕ) → P k → ⊥
Found P (Some o) = P o.first × OthersFound P o.first o.other

-- the table of one scope is put among the others
pub record IsFilled (p : List Located) (old new : List (List Row)) (scope : ℕ) : Type 0 where
  pub length_is : length new ≡ length old
  pub exact : IsExact p scope (table_at new scope)
  pub others : (s : ℕ) → (s ≡ scope → ⊥) → table_at new s ≡ table_at old s

-- the tables of all scopes are known
pub record AreAssociated (o : Outline) (used : List (List Row)) : Type 0 where
  pub exact : (s : ℕ) → s < o.scopes → IsExact o.items s (table_at used s)
