use Rattle.std.proofs.Common.{◌≡◌, ℕ, ◌<◌}
use Rattle.std.specs.Prelude.{slice_index, length}
use Rattle.block_homes.specs.Held.{starting}
use Rattle.reg_alloc.proofs.places.start_row.Given as goal

abbrev pub invariant-loop : goal.invariant-loop
invariant-loop l = record {
  so_far : length l.row.items ≡ l.counter;
  cells : (h : ℕ) → h < l.counter → slice_index l.row.items h ≡ l.none;
}

abbrev pub invariant-loop-v : goal.invariant-loop-v
invariant-loop-v l = record {
  all : length l.row.items ≡ l.size;
  cells : (h : ℕ) → h < l.size → slice_index l.row.items h ≡ starting l.places l.none h l.v;
}
