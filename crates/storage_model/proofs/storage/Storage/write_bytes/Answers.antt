use Rattle.std.proofs.Common.{◌≡◌, ◌+◌, sym, ◌∙◌, ap, subst, arith, length, drop}
use Rattle.std.specs.Prelude.{true}
use Rattle.storage_model.specs.Storage.{at, is_memory}
use Rattle.storage_model.specs.Access.{write_all}
use Rattle.storage_model.specs.Reach.{GoodBytes}
use Rattle.storage_model.specs.Model.{model}
use Rattle.storage_model.proofs.Writes.{write_next, bytes_write_one}
use Rattle.storage_model.proofs.storage.Storage.write_bytes.Goals as goal

pub loop-i-preserved : goal.loop-i-preserved
loop-i-preserved c =
    let m = model c.loop-i.self in
    let v = c.args.from.view in
    let k = c.args.from.offset in
    let i = c.loop-i.i in
    let e = c.write_byte.ensures in
    record {
      bytes = subst (λ x. GoodBytes x v k (length c.args.cells.now)) (sym e) (bytes_write_one m (at v (k + i)) _ v k (length c.args.cells.now) c.loop-i.invariant.bytes);
      memory = subst (λ x. is_memory x c.args.from ≡ true) (sym e) c.loop-i.invariant.memory;
      rest = ap (λ x. write_all x v (k + (i + 1)) (drop (i + 1) c.args.cells.now)) e
          ∙ sym (write_next m v k i c.args.cells.now _ (omega arith)) ∙ c.loop-i.invariant.rest;
    }
