-- What is seen of a run.
use Rattle.std.specs.Prelude.{ℕ, ℤ, List}

-- the limits that can end a run: bytes of frames and bytes of objects
pub data Limit : Type 0 where
  Frames : Limit
  Objects : Limit

-- how a run stands: it goes on; it ended by itself with a code; a limit ended it; or it is wrong, and nothing is claimed of it from here on.
-- A meaning is wrong once a rule is violated, a machine once it traps.
pub data Ending : Type 0 where
  Running : Ending
  Stopped : (code : ℤ) → Ending
  Limited : (limit : Limit) → Ending
  Wrong : Ending

-- the bytes given so far, the count of input bytes taken, and how the run stands
pub record Seen : Type 0 where
  pub output : List ℕ
  pub taken : ℕ
  pub ending : Ending

-- what is seen at each bound, which counts the units of a meaning or the steps of a machine
abbrev pub Behaviour : Type 0
Behaviour = ℕ → Seen
