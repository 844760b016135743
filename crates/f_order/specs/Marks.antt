-- Numbers that are marked.
use Rattle.std.specs.Prelude.{ℕ, suc, List, [], ◌∷◌, length, Option, Some, None, Bool, true, false, ◌&&◌, nat_lt, if◌then◌else◌, slice_index_or, slice_set}

-- the number is marked
abbrev pub marked : List Bool → ℕ → Bool
marked marks n = slice_index_or marks n false

-- the marks with one more
abbrev pub set_mark : List Bool → ℕ → List Bool
set_mark marks n = if nat_lt n (length marks) then slice_set marks n true else marks

abbrev pub set_some : List Bool → Option ℕ → List Bool
set_some marks None = marks
set_some marks (Some n) = set_mark marks n

-- all these numbers are marked
unfoldable pub are_marked : List Bool → List ℕ → Bool
are_marked marks [] = true
are_marked marks (n ∷ ns) = marked marks n && are_marked marks ns

-- how many are not
unfoldable pub unmarked : List Bool → ℕ
unmarked [] = 0
unmarked (true ∷ ms) = unmarked ms
unmarked (false ∷ ms) = suc (unmarked ms)
