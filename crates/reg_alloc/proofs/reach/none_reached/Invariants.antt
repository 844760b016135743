use Rattle.std.proofs.Common.{◌≡◌, ℕ, ◌<◌, length, false}
use Rattle.std.specs.Prelude.{slice_index_or}
use Rattle.reg_alloc.proofs.reach.none_reached.Given as goal

abbrev pub invariant-loop : goal.invariant-loop
invariant-loop l = record {
  so_far : length l.items.items ≡ l.counter;
  none : (c : ℕ) → c < l.counter → slice_index_or l.items.items c false ≡ false;
}
