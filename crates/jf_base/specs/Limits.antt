-- The limits of a run.
use Rattle.std.specs.Prelude.{◌≡◌, ℕ, ◌≤◌, ◌%◌}
use Rattle.jf_base.specs.declared.place.Limits.{Limits}

-- the size of a region: a multiple of 16 from 4,096 to 268,435,456 bytes
pub record IsRegionSize (bytes : ℕ) : Type 0 where
  pub least : 4096 ≤ bytes
  pub most : bytes ≤ 268435456
  pub whole : bytes % 16 ≡ 0

-- each limit is in its range
pub record AreLimits (limits : Limits) : Type 0 where
  pub some_step : 1 ≤ limits.steps
  pub most_steps : limits.steps ≤ 1000000000000000
  pub heap : IsRegionSize limits.heap
  pub objects : IsRegionSize limits.objects
  pub frames : IsRegionSize limits.frames
