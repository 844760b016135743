-- From which entities a name comes: a table's entry has one, and another if there are several.
use Rattle.std.specs.Prelude.{◌≡◌, ℕ, ◌⊎◌, List, Option, Some, None, Bool, false, not, ◌==◌}
use Rattle.f_scope.specs.declared.table.Entry.{Entry}
use Rattle.f_scope.specs.Tables.{Row, entry_at, noted}
use Rattle.f_use.specs.declared.origins.Origins.{Origins}

-- the entity is one of those in the entry
abbrev pub Member : Option Entry → ℕ → Type 0
Member None k = ⊥
Member (Some e) k = (k ≡ e.first) ⊎ (e.told ≡ Some k)

abbrev pub is_covered : ℕ → Option ℕ → ℕ → Type 0
is_covered first None k = k ≡ first
is_covered first (Some other) k = Unit {0}

-- the entry has the entity, or it has two
abbrev pub Covers : Option Entry → ℕ → Type 0
Covers None k = ⊥
Covers (Some e) k = is_covered e.first e.told k

-- where it has two, they differ
abbrev pub Apart : Option Entry → Type 0
Apart None = Unit {0}
Apart (Some e) = (k : ℕ) → e.told ≡ Some k → k ≡ e.first → ⊥

abbrev pub differs : Option Entry → ℕ → Bool
differs None k = false
differs (Some e) k = not (e.first == k)

abbrev pub origins_of : Option Entry → Option Origins
origins_of None = None
origins_of (Some e) = Some (record { first = e.first; other = e.told })

-- ---- tables that grow

-- a table with one more entity of a name
abbrev pub added : List Row → List ℕ → ℕ → List Row
added rows name k = noted rows name k (differs (entry_at name rows) k)

abbrev pub added_some : List Row → List ℕ → Option ℕ → List Row
added_some rows name None = rows
added_some rows name (Some k) = added rows name k

-- with those of an entry
abbrev pub added_entry : List Row → List ℕ → Option Entry → List Row
added_entry rows name None = rows
added_entry rows name (Some e) = added_some (added rows name e.first) name e.told

-- which name comes from which entities
abbrev pub Only : List ℕ → ℕ → List ℕ → ℕ → Type 0
Only name place n k = (n ≡ name) × (k ≡ place)

abbrev pub OwnOf : List ℕ → Option ℕ → List ℕ → ℕ → Type 0
OwnOf name o n k = (n ≡ name) × (o ≡ Some k)

abbrev pub Reaches : List ℕ → Option Entry → List ℕ → ℕ → Type 0
Reaches name e n k = (n ≡ name) × Covers e k

abbrev pub Names : List ℕ → Option Entry → List ℕ → ℕ → Type 0
Names name e n k = (n ≡ name) × Member e k

-- a table has what it had and what G says of names, and nothing but what it had and what S says
pub record Grew (old new : List Row) (G S : List ℕ → ℕ → Type 0) : Type 0 where
  pub keeps : (name : List ℕ) (k : ℕ) → Covers (entry_at name old) k → Covers (entry_at name new) k
  pub gets : (name : List ℕ) (k : ℕ) → G name k → Covers (entry_at name new) k
  pub only : (name : List ℕ) (k : ℕ) → Member (entry_at name new) k → Member (entry_at name old) k ⊎ S name k
  pub apart : ((name : List ℕ) → Apart (entry_at name old)) → (name : List ℕ) → Apart (entry_at name new)
