use Rattle.std.proofs.Common.{◌+◌, ◌-◌, sym, ◌∙◌, ap, subst, arith}
use Rattle.storage_model.specs.Storage.{at}
use Rattle.storage_model.specs.Access.{read_all}
use Rattle.storage_model.specs.Reach.{GoodBytes}
use Rattle.storage_model.specs.Model.{model}
use Rattle.storage_model.proofs.Reading.{read_next, bytes_read_one}
use Rattle.storage_model.proofs.storage.Storage.read_bytes.Goals as goal

pub loop-x-preserved : goal.loop-x-preserved
loop-x-preserved c =
    let m = model c.loop-x.self in
    let v = c.args.from.view in
    let k = c.args.from.offset in
    let x = c.loop-x.x in
    let n = c.args.n in
    let e = c.read_byte.ensures in
    record {
      bytes = subst (λ y. GoodBytes y v k n) (sym e) (bytes_read_one m (at v (k + x)) v k n c.loop-x.invariant.bytes);
      rest = ap (λ y. read_all y v (k + (x + 1)) (n - (x + 1))) e ∙ sym (read_next m v k x n (omega arith)) ∙ c.loop-x.invariant.rest;
    }
