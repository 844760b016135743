use Rattle.std.proofs.Common.{sym, ◌∙◌, ap, arith}
use Rattle.storage_model.specs.Storage.{can_write, at}
use Rattle.storage_model.specs.Chain.{may_write}
use Rattle.storage_model.specs.Model.{model}
use Rattle.storage_model.proofs.Nth.{nth_object_at, nth_object_past}
use Rattle.storage_model.proofs.storage.Storage.may_write_home.Goals as goal

pub returns-then-o-len : goal.returns-then-o-len
returns-then-o-len c = sym (ap (λ v. may_write (model c.args.self.now) (at v c.args.at.offset)) c.in-Home.is
    ∙ ap (λ y. can_write y.kind) (nth_object_at c.args.self.now.objects.items c.in-Home.o c.index.result.now (omega arith) c.index.ensures)
    ∙ sym c.can_write.ensures)

pub returns-else-o-len : goal.returns-else-o-len
returns-else-o-len c = sym (ap (λ v. may_write (model c.args.self.now) (at v c.args.at.offset)) c.in-Home.is
    ∙ ap (λ y. can_write y.kind) (nth_object_past c.args.self.now.objects.items c.in-Home.o (omega arith)))
