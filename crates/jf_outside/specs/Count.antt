-- Counts of calls and of faults. They never fall, and stand still at the end of 64 bits.
use Rattle.std.specs.Prelude.{ℕ, ◌+◌, ◌-◌, ◌^◌, ◌≤◌, min}

-- one more, up to the end of 64 bits
abbrev pub counted : ℕ → ℕ
counted count = min (count + 1) (2 ^ 64 - 1)

-- the count has risen, or stands at its end. Its negation, where a clause asks for it, says that nothing failed
pub record Rose (before now : ℕ) : Type 0 where
  pub later : before ≤ now
  pub risen : counted before ≤ now
