-- The first of names in the order of bytes.
use Rattle.std.specs.Prelude.{ℕ, ◌≡◌, List, false}
use Rattle.std.specs.Cmp.Lexicographic.{slice_cmp}
use Rattle.std.specs.Ordering.{nat_cmp, is_lt}
use Rattle.linker.specs.Names.{Holds}

-- none of the names stands before this one
abbrev pub IsNoneBefore : (names : List (List ℕ)) (name : List ℕ) → Type 0
IsNoneBefore names name = (other : List ℕ) → Holds names other → is_lt (slice_cmp nat_cmp other name) ≡ false

abbrev pub IsFirst : (names : List (List ℕ)) (name : List ℕ) → Type 0
IsFirst names name = Holds names name × IsNoneBefore names name
