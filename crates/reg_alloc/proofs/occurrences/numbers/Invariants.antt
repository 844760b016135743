use Rattle.std.proofs.Common.{◌≡◌, ℕ, ◌<◌, length}
use Rattle.std.specs.Prelude.{slice_index}
use Rattle.reg_alloc.proofs.occurrences.numbers.Given as goal

abbrev pub invariant-loop-n : goal.invariant-loop-n
invariant-loop-n l = record {
  so_far : length l.numbers.items ≡ l.n;
  each : (m : ℕ) → m < l.n → slice_index l.numbers.items m ≡ m;
}
