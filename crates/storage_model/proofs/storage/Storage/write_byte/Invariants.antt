use Rattle.std.proofs.Common.{◌≡◌}
use Rattle.std.specs.Prelude.{true}
use Rattle.storage_model.specs.Storage.{Good, is_memory}
use Rattle.storage_model.specs.Access.{write_one}
use Rattle.storage_model.specs.Model.{model}
use Rattle.storage_model.proofs.Steps.{depth}
use Rattle.storage_model.proofs.storage.Storage.write_byte.Given as goal

abbrev pub invariant-loop-q : goal.invariant-loop-q
invariant-loop-q l = record {
  good : Good (model l.self) l.q;
  memory : is_memory (model l.self) l.q ≡ true;
  rest : write_one (model l.self) l.q l.cell ≡ write_one (model l.fn.self) l.fn.to l.cell;
}

abbrev pub decreases-loop-q : goal.decreases-loop-q
decreases-loop-q l = depth l.q.view
