use Rattle.std.proofs.Common.{◌≡◌, ℕ, ◌+◌, ◌-◌, vec_len}
use Rattle.storage_model.specs.Held.{nth_stack}
use Rattle.storage_model.proofs.listing.push_cover.Given as goal

abbrev pub invariant-loop-alloc : goal.invariant-loop-alloc
invariant-loop-alloc l = (i : ℕ) → nth_stack l.table.items i ≡ nth_stack l.fn.table.items i

abbrev pub decreases-loop-alloc : goal.decreases-loop-alloc
decreases-loop-alloc l = l.byte + 1 - vec_len l.table
