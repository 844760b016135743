use Rattle.std.proofs.Common.{◌≡◌, ℕ, ◌<◌}
use Rattle.std.specs.Prelude.{false}
use Rattle.storage_model.specs.Held.{nth_loan}
use Rattle.storage_model.proofs.storage.Storage.is_last.Given as goal

abbrev pub invariant-loop-l : goal.invariant-loop-l
invariant-loop-l l = (m : ℕ) → l.loan < m → m < l.l → (nth_loan l.self.loans.items m).is_open ≡ false
