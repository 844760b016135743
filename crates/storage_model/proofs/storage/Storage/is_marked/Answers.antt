use Rattle.std.proofs.Common.{sym, ◌∙◌, ap, arith}
use Rattle.storage_model.specs.Chain.{marks_against}
use Rattle.storage_model.specs.Held.{no_byte}
use Rattle.storage_model.specs.Model.{model}
use Rattle.storage_model.proofs.Nth.{nth_loan_at, nth_loan_past}
use Rattle.storage_model.proofs.Steps.{get_or_any, get_or_past}
use Rattle.storage_model.proofs.storage.Storage.is_marked.Goals as goal

pub returns-then-cover-len-2 : goal.returns-then-cover-len-2
returns-then-cover-len-2 c =
    let h = c.index-loan.result.now.bytes.ok.0 in
    sym (ap (λ r. marks_against (model c.args.self.now) r c.args.cover.loan c.args.cover.byte) c.if-not-read.false
    ∙ ap (λ y. y.written c.args.cover.byte) (nth_loan_at c.args.self.now.loans.items c.args.cover.loan c.index-loan.result.now (omega arith) c.index-loan.ensures)
    ∙ ap (λ y. y.written) (get_or_any c.index-loan.result.now.bytes.items c.args.cover.byte no_byte c.index.result.now (omega (arith, h)) ∙ sym c.index.ensures))

pub returns-else-cover-len-2 : goal.returns-else-cover-len-2
returns-else-cover-len-2 c =
    let h = c.index-loan.result.now.bytes.ok.0 in
    sym (ap (λ r. marks_against (model c.args.self.now) r c.args.cover.loan c.args.cover.byte) c.if-not-read.false
    ∙ ap (λ y. y.written c.args.cover.byte) (nth_loan_at c.args.self.now.loans.items c.args.cover.loan c.index-loan.result.now (omega arith) c.index-loan.ensures)
    ∙ ap (λ y. y.written) (get_or_past c.index-loan.result.now.bytes.items c.args.cover.byte no_byte (omega (arith, h))))

pub returns-else-cover-len : goal.returns-else-cover-len
returns-else-cover-len c =
    sym (ap (λ r. marks_against (model c.args.self.now) r c.args.cover.loan c.args.cover.byte) c.if-not-read.false
    ∙ ap (λ y. y.written c.args.cover.byte) (nth_loan_past c.args.self.now.loans.items c.args.cover.loan (omega arith)))
