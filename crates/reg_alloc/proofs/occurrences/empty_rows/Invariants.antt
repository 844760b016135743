use Rattle.std.proofs.Common.{◌≡◌, ℕ, []}
use Rattle.std.specs.Prelude.{length}
use Rattle.reg_alloc.specs.Occurs.{row}
use Rattle.reg_alloc.proofs.occurrences.empty_rows.Given as goal

abbrev pub invariant-loop : goal.invariant-loop
invariant-loop l = record {
  so_far : length l.rows.items ≡ l.counter;
  empty : (v : ℕ) → row l.rows.items v ≡ [];
}
