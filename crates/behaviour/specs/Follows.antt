-- When one behaviour follows another.
use Rattle.std.specs.Prelude.{◌≡◌, ◌≢◌, ℕ, ◌+◌, ◌*◌, ◌≤◌, ◌⊎◌}
use Rattle.behaviour.specs.Behaviour.{Running, Wrong, Behaviour}

-- at each bound n at which b isn't wrong, a shows the same at some bound of at most k * (n + 1)
abbrev pub Forth : ℕ → Behaviour → Behaviour → Type 0
Forth k a b = (n : ℕ) → (b n).ending ≢ Wrong → (m : ℕ) × (m ≤ k * (n + 1)) × (a m ≡ b n)

-- at each bound of a, b shows the same at some bound, or b is wrong at some bound
abbrev pub Back : Behaviour → Behaviour → Type 0
Back a b = (m : ℕ) → (n : ℕ) × ((a m ≡ b n) ⊎ ((b n).ending ≡ Wrong))

-- a follows b within k
pub record Follows (k : ℕ) (a b : Behaviour) : Type 0 where
  pub forth : Forth k a b
  pub back : Back a b

-- a shows as much of b as one likes at bounds as great as one likes, or b doesn't go on
pub record Progress (a b : Behaviour) : Type 0 where
  pub reaches : (j : ℕ) → (n : ℕ) × (((m : ℕ) × (j ≤ m) × (a m ≡ b n)) ⊎ ((b n).ending ≢ Running))

-- as Forth, and while b goes on, a takes at least one step for each unit
abbrev pub SteadyForth : ℕ → Behaviour → Behaviour → Type 0
SteadyForth k a b = (n : ℕ) → (b n).ending ≢ Wrong → (m : ℕ) × (m ≤ k * (n + 1)) × ((b n).ending ≡ Running → n ≤ m) × (a m ≡ b n)
