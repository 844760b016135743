-- What the linker's table of names keeps.
use Rattle.std.specs.Prelude.{ℕ, ◌≡◌, ◌≤◌, List, None}
use Rattle.linker.specs.Names.{Entry, definition_at, count_of, Holds}

-- the table has the first of each name's definitions among the entries, and `twice` the names that have two
pub record IsTable (entries table : List Entry) (twice : List (List ℕ)) : Type 0 where
  pub first : (name : List ℕ) → definition_at name table ≡ definition_at name entries
  pub sound : (name : List ℕ) → Holds twice name → 2 ≤ count_of name entries
  pub full : (name : List ℕ) → 2 ≤ count_of name entries → Holds twice name

-- `missing` has the names that were asked for and aren't in the table
pub record AreMissed (asked : List (List ℕ)) (table : List Entry) (missing : List (List ℕ)) : Type 0 where
  pub sound : (name : List ℕ) → Holds missing name → Holds asked name × (definition_at name table ≡ None)
  pub full : (name : List ℕ) → Holds asked name → definition_at name table ≡ None → Holds missing name
