use Rattle.std.proofs.Common.{◌≡◌, ℕ, vec_len}
use Rattle.std.specs.Prelude.{◌≢◌, true}
use Rattle.storage_model.specs.Held.{in_stack}
use Rattle.storage_model.proofs.listing.drop_loan.Given as goal

abbrev pub invariant-loop-stack : goal.invariant-loop-stack
invariant-loop-stack l = (m k : ℕ) → m ≢ l.loan → in_stack m k l.fn.stack.items ≡ true → in_stack m k l.stack.items ≡ true

abbrev pub decreases-loop-stack : goal.decreases-loop-stack
decreases-loop-stack l = vec_len l.stack
