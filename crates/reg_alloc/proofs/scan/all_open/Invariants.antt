use Rattle.std.proofs.Common.{◌≡◌, ℕ, ◌<◌, length}
use Rattle.std.specs.Prelude.{slice_index_or}
use Rattle.reg_alloc.specs.declared.scan.Choice.TheVariants as C
use Rattle.reg_alloc.proofs.scan.all_open.Given as goal

abbrev pub invariant-loop : goal.invariant-loop
invariant-loop l = record {
  so_far : length l.items.items ≡ l.counter;
  all : (u : ℕ) → u < l.counter → slice_index_or l.items.items u C.Open ≡ C.Open;
}
