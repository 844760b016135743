use Rattle.std.proofs.Common.{◌≡◌, ℕ, ◌+◌, ◌<◌}
use Rattle.std.specs.Prelude.{true}
use Rattle.storage_model.specs.Storage.{at}
use Rattle.storage_model.specs.Chain.{none_beside, marks_against}
use Rattle.storage_model.specs.Model.{model}
use Rattle.storage_model.proofs.storage.Storage.all_alone.Given as goal

abbrev pub invariant-loop-x : goal.invariant-loop-x
invariant-loop-x l = (j : ℕ) → j < l.x → none_beside (model l.self) (marks_against (model l.self) l.read) (at l.from.view (l.from.offset + j)) ≡ true
