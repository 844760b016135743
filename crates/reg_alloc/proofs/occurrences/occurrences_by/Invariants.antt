use Rattle.std.proofs.Common.{◌≡◌, ℕ, ◌++◌, length, take, drop}
use Rattle.block_homes.specs.Held.{total}
use Rattle.reg_alloc.specs.Occurs.{row, in_blocks_by}
use Rattle.reg_alloc.proofs.occurrences.occurrences_by.Given as goal

abbrev pub invariant-loop-b : goal.invariant-loop-b
invariant-loop-b l = record {
  so_far : l.start ≡ total (take l.b l.fn.p.blocks);
  count : length l.rows.items ≡ l.fn.count;
  each : (h : ℕ) → row l.rows.items h ++ in_blocks_by l.keys h l.b l.start (drop l.b l.fn.p.blocks) ≡ in_blocks_by l.keys h 0 0 l.fn.p.blocks;
}
