use Rattle.std.proofs.Common.{sym, ◌∙◌, ap, arith}
use Rattle.storage_model.specs.Storage.{is_live}
use Rattle.storage_model.specs.Model.{model}
use Rattle.storage_model.proofs.Nth.{nth_object_at, nth_loan_at}
use Rattle.storage_model.proofs.storage.Storage.is_live.Goals as goal

pub returns-then-o-len : goal.returns-then-o-len
returns-then-o-len c = sym (ap (is_live (model c.args.self.now)) c.in-Home.is
    ∙ ap (λ y. y.alive) (nth_object_at c.args.self.now.objects.items c.in-Home.o c.index.result.now (omega arith) c.index.ensures))

pub returns-then-l-len : goal.returns-then-l-len
returns-then-l-len c = sym (ap (is_live (model c.args.self.now)) c.in-Loan.is
    ∙ ap (λ y. y.is_open) (nth_loan_at c.args.self.now.loans.items c.in-Loan.l c.index-then-l-len.result.now (omega arith) c.index-then-l-len.ensures))
