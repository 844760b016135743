-- Tests over lists and numbers.
use Rattle.std.specs.Prelude.{ℕ, zero, suc, Bool, true, ◌&&◌, List, [], ◌∷◌, Option, Some, None}

-- each is true
abbrev pub all_of : List Bool → Bool
all_of [] = true
all_of (b ∷ bs) = b && all_of bs

-- what is there is true
abbrev pub if_there : Option Bool → Bool
if_there None = true
if_there (Some b) = b

-- a test holds of what is there
abbrev pub of_any : {A : Type 0} → (A → Bool) → Option A → Bool
of_any test None = true
of_any test (Some x) = test x

-- a test holds of each number below n
abbrev pub each_below : ℕ → (ℕ → Bool) → Bool
each_below zero test = true
each_below (suc n) test = each_below n test && test n
