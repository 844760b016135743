-- The first broken rule along places and along units.
use Rattle.std.specs.Prelude.{◌≡◌, ◌<◌, ◌⊎◌, ℕ, List, [], ◌∷◌, Option, Some, None, slice_get}
use Rattle.f_items.specs.Places.{Located}
use Rattle.f_use.specs.Places.{Among, list_at}
use Rattle.f_rules.specs.RuleOf.{RuleAt}
use Rattle.f_names.specs.declared.walk.Broken.{Broken}

-- the item at a place breaks no rule
abbrev pub KeptAt : List Located → ℕ → Type 0
KeptAt p k = RuleAt p k None

-- the first of the items at these places that breaks a rule, or that none does
abbrev pub FirstIn : List Located → List ℕ → Option Broken → Type 0
FirstIn p places None = (k : ℕ) → Among places k → KeptAt p k
FirstIn p places (Some b) = (i : ℕ) × (slice_get places i ≡ Some b.place) × RuleAt p b.place (Some b.rule) × ((j k : ℕ) → j < i → slice_get places j ≡ Some k → KeptAt p k)

-- the first in these units, by the places of their items
unfoldable pub FirstOf : List Located → List (List ℕ) → List ℕ → Option Broken → Type 0
FirstOf p lists [] r = r ≡ None
FirstOf p lists (u ∷ us) r = ((b : Broken) × (r ≡ Some b) × FirstIn p (list_at lists u) (Some b)) ⊎ (FirstIn p (list_at lists u) None × FirstOf p lists us r)
