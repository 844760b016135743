use Rattle.std.proofs.Common.{◌≡◌, ℕ, ◌<◌, length, take}
use Rattle.std.specs.Prelude.{slice_index}
use Rattle.block_homes.specs.Held.{total}
use Rattle.reg_alloc.proofs.occurrences.starts_of.Given as goal

abbrev pub invariant-loop-block : goal.invariant-loop-block
invariant-loop-block l = record {
  so_far : l.start ≡ total (take l.block-index l.fn.p.blocks);
  count : length l.starts.items ≡ l.block-index;
  each : (b : ℕ) → b < l.block-index → slice_index l.starts.items b ≡ total (take b l.fn.p.blocks);
}
