use Rattle.std.proofs.Common.{◌≡◌}
use Rattle.storage_model.specs.Model.{model}
use Rattle.storage_model.proofs.storage.Storage.unlist_loan.Given as goal

abbrev pub invariant-loop-k : goal.invariant-loop-k
invariant-loop-k l = model l.self ≡ model l.fn.self
