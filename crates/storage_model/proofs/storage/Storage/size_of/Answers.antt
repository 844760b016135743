use Rattle.std.proofs.Common.{sym, ◌∙◌, ap, arith}
use Rattle.storage_model.specs.declared.cell.View.TheVariants.{Home, Loan}
use Rattle.storage_model.specs.Storage.{size_of}
use Rattle.storage_model.specs.Model.{model}
use Rattle.storage_model.proofs.Nth.{nth_object_at, nth_loan_at, nth_object_past, nth_loan_past}
use Rattle.storage_model.proofs.storage.Storage.size_of.Goals as goal

pub returns-then-o-len-clause-value : goal.returns-then-o-len-clause-value
returns-then-o-len-clause-value c = sym (ap (size_of (model c.args.self.now)) c.in-Home.is
    ∙ ap (λ y. y.size) (nth_object_at c.args.self.now.objects.items c.in-Home.o c.index.result.now (omega arith) c.index.ensures))

pub returns-then-o-len-clause-small : goal.returns-then-o-len-clause-small
returns-then-o-len-clause-small c =
    let e = ap (λ y. y.size) (nth_object_at c.args.self.now.objects.items c.in-Home.o c.index.result.now (omega arith) c.index.ensures) in
    let h = c.args.self.now.held.small (Home c.in-Home.o) in omega (arith, e, h)

pub returns-else-o-len-clause-value : goal.returns-else-o-len-clause-value
returns-else-o-len-clause-value c = sym (ap (size_of (model c.args.self.now)) c.in-Home.is
    ∙ ap (λ y. y.size) (nth_object_past c.args.self.now.objects.items c.in-Home.o (omega arith)))

pub returns-then-l-len-clause-value : goal.returns-then-l-len-clause-value
returns-then-l-len-clause-value c = sym (ap (size_of (model c.args.self.now)) c.in-Loan.is
    ∙ ap (λ y. y.bytes) (nth_loan_at c.args.self.now.loans.items c.in-Loan.l c.index-then-l-len.result.now (omega arith) c.index-then-l-len.ensures)
    ∙ sym (c.len-then-l-len.ensures ∙ c.index-then-l-len.result.now.bytes.ok.0))

pub returns-then-l-len-clause-small : goal.returns-then-l-len-clause-small
returns-then-l-len-clause-small c =
    let e = ap (λ y. y.bytes) (nth_loan_at c.args.self.now.loans.items c.in-Loan.l c.index-then-l-len.result.now (omega arith) c.index-then-l-len.ensures) in
    let h = c.args.self.now.held.small (Loan c.in-Loan.l) in omega (arith, e, h, c.len-then-l-len.ensures, c.index-then-l-len.result.now.bytes.ok.0)

pub returns-else-l-len-clause-value : goal.returns-else-l-len-clause-value
returns-else-l-len-clause-value c = sym (ap (size_of (model c.args.self.now)) c.in-Loan.is
    ∙ ap (λ y. y.bytes) (nth_loan_past c.args.self.now.loans.items c.in-Loan.l (omega arith)))
