-- Something at each number of units.
use Rattle.std.specs.Prelude.{ℕ, zero, suc, Option, Some, None}

-- now, before this unit is done; then the rest
abbrev pub unit : {S : Type 0} → S → (ℕ → S) → ℕ → S
unit now next zero = now
unit now next (suc n) = next n

-- an end is a unit itself, and after it nothing changes
abbrev pub ended : {S : Type 0} → S → S → ℕ → S
ended now end = unit now (λ n. end)

-- goes on with a value, where there is one
abbrev pub with_value : {A S : Type 0} → Option A → (ℕ → S) → (A → ℕ → S) → ℕ → S
with_value None other go = other
with_value (Some v) other go = go v
