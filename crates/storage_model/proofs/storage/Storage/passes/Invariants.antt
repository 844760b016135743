use Rattle.std.proofs.Common.{◌≡◌}
use Rattle.storage_model.specs.Storage.{Good}
use Rattle.storage_model.specs.Chain.{passes}
use Rattle.storage_model.specs.Model.{model}
use Rattle.storage_model.proofs.Steps.{depth}
use Rattle.storage_model.proofs.storage.Storage.passes.Given as goal

abbrev pub invariant-loop-at : goal.invariant-loop-at
invariant-loop-at l = record {
  good : Good (model l.self) l.at;
  same : passes (model l.self) l.fn.from l.loan l.byte ≡ passes (model l.self) l.at l.loan l.byte;
}

abbrev pub decreases-loop-at : goal.decreases-loop-at
decreases-loop-at l = depth l.at.view
