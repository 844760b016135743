-- Rules and their tags: a letter for the group of rules and the rule's number in its group.
use Rattle.std.specs.Prelude.{ℕ, ◌+◌, ◌-◌, ◌/◌, ◌%◌, ◌≤◌, List, [], ◌∷◌, codes, slice_index}

-- the letters of the groups in order: lines and tokens, statements, names, Fortran's checks, the preprocessor, C's grammar, C's checks, matching, violations, and what isn't built
abbrev pub group_letters : List ℕ
group_letters = codes "LSNFPGCMVX"

-- how many rules each group has
abbrev pub group_sizes : List ℕ
group_sizes = 8 ∷ 3 ∷ 9 ∷ 32 ∷ 10 ∷ 2 ∷ 20 ∷ 14 ∷ 27 ∷ 1 ∷ []

-- the number names a rule: 100 times its group, counted from 1, and its number in the group
pub record IsTag (number : ℕ) : Type 0 where
  pub first_group : 100 ≤ number
  pub last_group : number / 100 ≤ 10
  pub first_rule : 1 ≤ number % 100
  pub last_rule : number % 100 ≤ slice_index group_sizes (number / 100 - 1)

-- the letter of the group and two digits
abbrev pub tag_bytes : ℕ → List ℕ
tag_bytes number = slice_index group_letters (number / 100 - 1) ∷ (48 + number % 100 / 10) ∷ (48 + number % 10) ∷ []
