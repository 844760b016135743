use Rattle.std.proofs.Common.{◌≡◌, ℕ, ◌<◌, length}
use Rattle.std.specs.Prelude.{slice_index}
use Rattle.reg_alloc.proofs.scan.filled.Given as goal

abbrev pub invariant-loop : goal.invariant-loop
invariant-loop l = record {
  so_far : length l.items.items ≡ l.counter;
  all : (u : ℕ) → u < l.counter → slice_index l.items.items u ≡ l.item;
}
