use Rattle.std.proofs.Common.{◌≡◌, ℕ, ◌++◌, length, take, drop}
use Rattle.block_homes.specs.Held.{total}
use Rattle.reg_alloc.specs.Occurs.{row, ends_to}
use Rattle.reg_alloc.proofs.occurrences.sources_of.Given as goal

abbrev pub invariant-loop-b : goal.invariant-loop-b
invariant-loop-b l = record {
  so_far : l.start ≡ total (take l.b l.fn.p.blocks);
  count : length l.rows.items ≡ length l.fn.p.blocks;
  each : (t : ℕ) → row l.rows.items t ++ ends_to t l.b l.start (drop l.b l.fn.p.blocks) ≡ ends_to t 0 0 l.fn.p.blocks;
}
