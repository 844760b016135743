use Rattle.std.proofs.Common.{◌≡◌}
use Rattle.storage_model.specs.Access.{cells_from}
use Rattle.storage_model.specs.Model.{model}
use Rattle.storage_model.proofs.storage.Storage.cells_of.Given as goal

abbrev pub invariant-loop-x : goal.invariant-loop-x
invariant-loop-x l = l.cells.items ≡ cells_from (model l.self) l.from.view l.from.offset l.x
