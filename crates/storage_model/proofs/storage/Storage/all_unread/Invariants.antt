use Rattle.std.proofs.Common.{◌≡◌, ℕ, ◌+◌, ◌<◌}
use Rattle.std.specs.Prelude.{true}
use Rattle.std.specs.List.{list_all}
use Rattle.storage_model.specs.Storage.{at}
use Rattle.storage_model.specs.Chain.{chain_of, not_read}
use Rattle.storage_model.specs.Model.{model}
use Rattle.storage_model.proofs.storage.Storage.all_unread.Given as goal

abbrev pub invariant-loop-x : goal.invariant-loop-x
invariant-loop-x l = (j : ℕ) → j < l.x → list_all (not_read (model l.self)) (chain_of (model l.self) (at l.from.view (l.from.offset + j))) ≡ true
