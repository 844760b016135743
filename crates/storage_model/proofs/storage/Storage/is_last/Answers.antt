use Rattle.std.proofs.Common.{◌≡◌, ℕ, ◌+◌, ◌<◌, refl, sym, ◌∙◌, ap, arith, length, ⊎_elim}
use Rattle.std.proofs.lemmas.Bool.{cases_lt}
use Rattle.storage_model.specs.Held.{nth_loan}
use Rattle.storage_model.proofs.Chains.{nat_or}
use Rattle.storage_model.proofs.Grounds.{not_both}
use Rattle.storage_model.proofs.Nth.{nth_loan_at, nth_loan_past}
use Rattle.storage_model.proofs.storage.Storage.is_last.Goals as goal
use Rattle.storage_model.proofs.storage.Storage.is_last.Goals.{else-l-loan-via-then-l-loan+else-index, else-l-loan-via-else-l-loan}

pub returns-then-index : goal.returns-then-index
returns-then-index c = (
  λ t. cc,
  λ last. absurd (not_both c.index.result.now.is_open c.if-index.true
      (sym (ap (λ y. y.is_open) (nth_loan_at c.args.self.now.loans.items c.loop-l.l c.index.result.now (omega (arith, c.args.self.now.loans.ok.0)) c.index.ensures))
      ∙ last.later c.loop-l.l c.if-l-loan.true)),
)

pub loop-l-preserved : goal.loop-l-preserved
loop-l-preserved c m above below = ⊎_elim
    (λ e. elim c.else-l-loan.branch [
      | else-l-loan-via-then-l-loan+else-index w ↦ ap (λ n. (nth_loan c.args.self.now.loans.items n).is_open) e
          ∙ ap (λ y. y.is_open) (nth_loan_at c.args.self.now.loans.items c.loop-l.l w.index.result.now (omega (arith, c.args.self.now.loans.ok.0)) w.index.ensures) ∙ w.if-index.false
      | else-l-loan-via-else-l-loan w ↦ absurd (omega (arith, e, above))
    ])
    (λ ne. c.loop-l.invariant m above (before m c.loop-l.l below ne))
    (nat_or m c.loop-l.l)
  where
    before : (a b : ℕ) → a < b + 1 → (a ≡ b → ⊥) → a < b
    before a b h ne = grind (arith, ne)

pub returns : goal.returns
returns c = (
  λ t. record {
    later = λ m h. ⊎_elim
        (λ lt. c.loop-l.invariant m h (omega (arith, lt, c.args.self.now.loans.ok.0)))
        (λ le. ap (λ y. y.is_open) (nth_loan_past c.args.self.now.loans.items m le))
        (cases_lt m (length c.args.self.now.loans.items));
  },
  λ last. refl,
)
