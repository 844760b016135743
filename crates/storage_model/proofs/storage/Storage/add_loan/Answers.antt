use Rattle.std.proofs.Common.{sym, ◌∙◌, ap, subst, [], ◌∷◌, ◌++◌}
use Rattle.std.specs.Prelude.{is_ok}
use Rattle.std.proofs.lemmas.Bool.{cond_both}
use Rattle.storage_model.specs.Held.{IsHeld, facts}
use Rattle.storage_model.proofs.Opening.{held_open, open_facts, held_small}
use Rattle.storage_model.proofs.storage.Storage.add_loan.Goals as goal

pub invariant_of-self : goal.invariant_of-self
invariant_of-self c =
    let s = c.args.self.now in
    let x = c.args.loan in
    record {
      held = subst (λ xs. IsHeld s.objects.items xs s.covers.items) (sym c.push.ensures.items)
          (cond_both (is_ok c.push.result) (s.loans.items ++ x ∷ []) s.loans.items (λ xs. IsHeld s.objects.items xs s.covers.items)
          (λ t. held_open s.objects.items s.loans.items s.covers.items x s.held c.requires.is_open c.requires.places c.requires.listed (held_small x.bytes))
          (λ f. s.held));
    }

pub returns-clause-opened : goal.returns-clause-opened
returns-clause-opened c =
    let s = c.args.self.now in
    ap (λ xs. facts s.objects.items xs) c.in_ok-push.ensures.items ∙ open_facts s.objects.items s.loans.items c.args.loan
