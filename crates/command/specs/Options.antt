-- The options among the words behind the command.
use Rattle.std.specs.Prelude.{◌≡◌, ℕ, ◌≤◌, Bool, not, ◌||◌, List, [], ◌∷◌, Option, None, IsSomeAnd, unwrap_or, codes, filter, drop, length, nat_eq}
use Rattle.std.specs.List.{starts_with, list_any, list_all}
use Rattle.command.specs.Number.{IsNumber, value_of}

-- a word that begins with `-` is an option
abbrev pub is_option : List ℕ → Bool
is_option word = starts_with nat_eq word (codes "-")

-- the option that sets the limit on steps, up to its number
abbrev pub steps_name : List ℕ
steps_name = codes "--steps="

-- the names of the options of `run`, each with the `=` before its number
abbrev pub run_options : List (List ℕ)
run_options = steps_name ∷ []

-- the word begins with one of these names
abbrev pub has_name : List (List ℕ) → List ℕ → Bool
has_name names word = list_any (λ name. starts_with nat_eq word name) names

-- each option among the words has one of these names
abbrev pub have_names : List (List ℕ) → List (List ℕ) → Bool
have_names names words = list_all (λ word. not (is_option word) || has_name names word) words

-- the words that set this option
abbrev pub settings : List ℕ → List (List ℕ) → List (List ℕ)
settings name words = filter (λ word. starts_with nat_eq word name) words

-- what these settings of one option say, where the number stands behind so many bytes: nothing where there are none, and
-- its number where there is one. Two settings of an option say nothing that is allowed
abbrev pub SaysNumber : ℕ → List (List ℕ) → Option ℕ → Type 0
SaysNumber from [] said = said ≡ None
SaysNumber from (word ∷ []) said =
    IsSomeAnd said (λ value. IsNumber (drop from word) × (value ≡ value_of (drop from word)))
SaysNumber from (word ∷ next ∷ words) said = ⊥

-- the words set this limit to the value, in its range, or leave it at its standard
pub record SaysLimit (name : List ℕ) (standard : ℕ) (InRange : ℕ → Type 0) (words : List (List ℕ)) (value : ℕ) : Type 0 where
  pub said : Option ℕ
  pub says : SaysNumber (length name) (settings name words) said
  pub is : value ≡ unwrap_or said standard
  pub in_range : InRange value

-- the limit on steps
abbrev pub SaysSteps : List (List ℕ) → ℕ → Type 0
SaysSteps words steps = SaysLimit steps_name 1000000000 (λ n. (1 ≤ n) × (n ≤ 1000000000000000)) words steps
