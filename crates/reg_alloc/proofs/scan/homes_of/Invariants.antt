use Rattle.std.proofs.Common.{◌≡◌, ℕ, ◌<◌, length}
use Rattle.std.specs.Prelude.{slice_index, slice_index_or}
use Rattle.block_homes.specs.declared.homes.Home.{Home}
use Rattle.reg_alloc.specs.Scan.{IsChoice, codes}
use Rattle.reg_alloc.proofs.scan.homes_of.Given as goal

abbrev pub invariant-loop-v : goal.invariant-loop-v
invariant-loop-v l = record {
  so_far : length l.homes.items ≡ l.v;
  each : (u : ℕ) (d : Home) → u < l.v → IsChoice u (slice_index (codes l.choices) u) (slice_index_or l.homes.items u d);
}
