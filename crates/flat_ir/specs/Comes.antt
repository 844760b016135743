-- When a run comes to another, with nothing seen on the way.
use Rattle.std.specs.Prelude.{◌≡◌, ℕ, zero, suc, ◌≤◌}
use Rattle.behaviour.specs.Behaviour.{Seen, Behaviour}

-- k units that show s, and then a run
abbrev pub delayed : Seen → ℕ → Behaviour → Behaviour
delayed s zero t n = t n
delayed s (suc k) t zero = s
delayed s (suc k) t (suc n) = delayed s k t n

-- a run comes to one of the good ones in at most b units, which show s
pub record Comes (s : Seen) (good : Behaviour → Type 0) (b : ℕ) (r : Behaviour) : Type 0 where
  pub k : ℕ
  pub few : k ≤ b
  pub rest : Behaviour
  pub is_good : good rest
  pub runs : (n : ℕ) → r n ≡ delayed s k rest n

-- a run shows s for exactly k units, and goes on as t
pub record Exactly (s : Seen) (k : ℕ) (t r : Behaviour) : Type 0 where
  pub runs : (n : ℕ) → r n ≡ delayed s k t n
