-- Numbers that are found and marked.
use Rattle.std.specs.Prelude.{ℕ, List, [], ◌∷◌, ◌++◌, Bool, if◌then◌else◌}
use Rattle.f_order.specs.Marks.{marked, set_mark}

-- the numbers that were found, in the order in which they were, and the marks of the same numbers
abbrev pub State : Type 0
State = List ℕ × List Bool

abbrev pub extended_one : ℕ → State → State
extended_one n s = if marked s.1 n then s else (s.0 ++ n ∷ [], set_mark s.1 n)

-- with those of the numbers that weren't found before
unfoldable pub extended : List ℕ → State → State
extended [] s = s
extended (n ∷ ns) s = extended ns (extended_one n s)
