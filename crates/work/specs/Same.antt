-- When a behaviour b does what a behaviour a does, as far as n units of a. K is the price of a unit in steps of b, and p what is paid beside it.
use Rattle.std.specs.Prelude.{◌≡◌, ℕ, suc, ◌+◌, ◌*◌, ◌≤◌, ◌⊎◌}
use Rattle.behaviour.specs.Behaviour.{Wrong, Behaviour}

-- a is wrong after i units, or b comes in so many steps to what a shows then
abbrev pub ForthAt : (K p : ℕ) (a b : Behaviour) → ℕ → Type 0
ForthAt K p a b i = ((a i).ending ≡ Wrong) ⊎ ((j : ℕ) × (j ≤ p + K * i) × (b j ≡ a i))

-- within j units a is wrong, or comes to what b shows after j steps
abbrev pub BackAt : (a b : Behaviour) → ℕ → Type 0
BackAt a b j = ((i : ℕ) × (i ≤ j) × ((a i).ending ≡ Wrong)) ⊎ ((i : ℕ) × (i ≤ j) × (a i ≡ b j))

-- b does what a does, and each unit takes it at least one step
pub record Same (K p n : ℕ) (a b : Behaviour) : Type 0 where
  pub forth : (i : ℕ) → i ≤ n → ForthAt K p a b i
  pub back : (j : ℕ) → j ≤ n → BackAt a b j

-- as Same at p = 0, where the step behind the first k steps ends the first unit
pub record Ready (K k n : ℕ) (a b : Behaviour) : Type 0 where
  pub start : b 0 ≡ a 0
  pub forth : (i : ℕ) → suc i ≤ n → ((a (suc i)).ending ≡ Wrong) ⊎ ((j : ℕ) × (j ≤ k + K * i) × (b j ≡ a (suc i)))
  pub back : (j : ℕ) → j ≤ n → BackAt a b j

-- at some units a is wrong, or shows what b shows after j steps
abbrev pub SometimeBackAt : (a b : Behaviour) → ℕ → Type 0
SometimeBackAt a b j = ((i : ℕ) × ((a i).ending ≡ Wrong)) ⊎ ((i : ℕ) × (a i ≡ b j))

-- b does what a does, and leaves out some units of a that show nothing
pub record Sheds (K p n : ℕ) (a b : Behaviour) : Type 0 where
  pub forth : (i : ℕ) → i ≤ n → ForthAt K p a b i
  pub back : (j : ℕ) → j ≤ n → SometimeBackAt a b j
