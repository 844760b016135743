use Rattle.std.proofs.Common.{◌≡◌, ◌+◌, ◌-◌}
use Rattle.storage_model.specs.Access.{read_all}
use Rattle.storage_model.specs.Reach.{GoodBytes}
use Rattle.storage_model.specs.Model.{model}
use Rattle.storage_model.proofs.storage.Storage.read_bytes.Given as goal

abbrev pub invariant-loop-x : goal.invariant-loop-x
invariant-loop-x l = record {
  bytes : GoodBytes (model l.self) l.from.view l.from.offset l.n;
  rest : read_all (model l.self) l.from.view (l.from.offset + l.x) (l.n - l.x) ≡ read_all (model l.fn.self) l.from.view l.from.offset l.n;
}
