use Rattle.std.proofs.Common.{◌≡◌, ◌+◌, length, drop}
use Rattle.std.specs.Prelude.{true}
use Rattle.storage_model.specs.Storage.{is_memory}
use Rattle.storage_model.specs.Access.{write_all}
use Rattle.storage_model.specs.Reach.{GoodBytes}
use Rattle.storage_model.specs.Model.{model}
use Rattle.storage_model.proofs.storage.Storage.write_bytes.Given as goal

abbrev pub invariant-loop-i : goal.invariant-loop-i
invariant-loop-i l = record {
  bytes : GoodBytes (model l.self) l.from.view l.from.offset (length l.cells);
  memory : is_memory (model l.self) l.from ≡ true;
  rest : write_all (model l.self) l.from.view (l.from.offset + l.i) (drop l.i l.cells) ≡ write_all (model l.fn.self) l.from.view l.from.offset l.cells;
}
