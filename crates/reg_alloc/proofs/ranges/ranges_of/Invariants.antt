use Rattle.std.proofs.Common.{◌≡◌, ℕ, ◌<◌, ◌≤◌, length}
use Rattle.std.specs.Prelude.{slice_index, slice_index_or}
use Rattle.reg_alloc.specs.Ranges.{RangeOf}
use Rattle.reg_alloc.specs.Scan.{no_range}
use Rattle.reg_alloc.proofs.ranges.ranges_of.Given as goal

abbrev pub invariant-loop-v : goal.invariant-loop-v
invariant-loop-v l = record {
  so_far : length l.ranges.items ≡ l.v;
  each : (u : ℕ) → u < l.v → RangeOf l.fn.p u (slice_index_or l.ranges.items u no_range);
  count : length l.marks.items ≡ length l.fn.p.blocks;
  under : (c : ℕ) → slice_index l.marks.items c ≤ l.v;
}
