use Rattle.std.proofs.Common.{◌≡◌}
use Rattle.storage_model.specs.Held.{stack_at}
use Rattle.storage_model.specs.Model.{model}
use Rattle.storage_model.proofs.Reading.{Marked}
use Rattle.storage_model.proofs.storage.Storage.read_byte.Given as goal

abbrev pub invariant-loop-i : goal.invariant-loop-i
invariant-loop-i l = record {
  covers : l.self.covers ≡ l.fn.self.covers;
  marked : Marked (model l.fn.self) (model l.self) l.from (stack_at l.fn.self.covers.items l.home) l.i;
}
