use Rattle.std.proofs.Common.{sym, ◌∙◌, ap, subst, [], ◌∷◌, ◌++◌}
use Rattle.std.specs.Prelude.{is_ok}
use Rattle.std.proofs.lemmas.Bool.{cond_both}
use Rattle.storage_model.specs.Held.{IsHeld, facts}
use Rattle.storage_model.proofs.Making.{held_table, held_make, make_facts, room_pushed}
use Rattle.storage_model.proofs.storage.Storage.add_object.Goals as goal

pub invariant_of-self-2 : goal.invariant_of-self-2
invariant_of-self-2 c =
    let s = c.args.self.now in
    let x = c.args.object in
    let v = c.new.result in
    let table = held_table s.objects.items s.loans.items s.covers.items v c.new.ensures.items s.held in
    let both : IsHeld c.push-2.new.self.items s.loans.items (s.covers.items ++ v ∷ []) =
    subst (λ xs. IsHeld xs s.loans.items (s.covers.items ++ v ∷ [])) (sym c.push-2.ensures.items)
    (cond_both (is_ok c.push-2.result) (s.objects.items ++ x ∷ []) s.objects.items (λ xs. IsHeld xs s.loans.items (s.covers.items ++ v ∷ []))
    (λ t. held_make s.objects.items s.loans.items (s.covers.items ++ v ∷ []) x (room_pushed s.objects.items s.covers.items v s.held.parallel) c.requires.sized c.requires.small table)
    (λ f. table)) in
    record { held = subst (λ ys. IsHeld c.push-2.new.self.items s.loans.items ys) (sym c.in_ok-push.ensures.items) both }

pub returns-clause-made : goal.returns-clause-made
returns-clause-made c =
    let s = c.args.self.now in
    ap (λ xs. facts xs s.loans.items) c.in_ok-push-2.ensures.items ∙ make_facts s.objects.items c.args.object s.loans.items
