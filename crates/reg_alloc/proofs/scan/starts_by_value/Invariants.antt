use Rattle.std.proofs.Common.{◌≡◌, ℕ, ◌<◌, length}
use Rattle.std.specs.Prelude.{All, Contains}
use Rattle.reg_alloc.specs.Scan.{first_of}
use Rattle.reg_alloc.proofs.scan.starts_by_value.Given as goal

abbrev pub invariant-loop-v : goal.invariant-loop-v
invariant-loop-v l = record {
  so_far : length l.starts.items ≡ l.v;
  each : All (λ s. (s.value < length l.ranges) × (s.first ≡ first_of l.ranges s.value)) l.starts.items;
  every : (u : ℕ) → u < l.v → Contains l.starts.items (record { first = first_of l.ranges u; value = u });
}
