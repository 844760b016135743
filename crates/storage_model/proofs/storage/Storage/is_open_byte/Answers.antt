use Rattle.std.proofs.Common.{sym, ◌∙◌, ap, arith}
use Rattle.std.specs.Prelude.{◌&&◌, ltb}
use Rattle.storage_model.proofs.Nth.{nth_loan_at}
use Rattle.storage_model.proofs.storage.Storage.is_open_byte.Goals as goal

pub returns-then-cover-len : goal.returns-then-cover-len
returns-then-cover-len c =
    c.both.ensures
    ∙ ap (λ n. c.index-loan.result.now.is_open && ltb c.args.cover.byte n) (c.len-then-cover-len.ensures ∙ c.index-loan.result.now.bytes.ok.0)
    ∙ sym (ap (λ y. y.is_open && ltb c.args.cover.byte y.bytes) (nth_loan_at c.args.self.now.loans.items c.args.cover.loan c.index-loan.result.now (omega arith) c.index-loan.ensures))
