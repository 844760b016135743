use Rattle.std.proofs.Common.{refl}
use Rattle.std.specs.Prelude.{false}
use Rattle.storage_model.specs.declared.held.HeldLoan.{HeldLoan}
use Rattle.storage_model.proofs.Closing.{held_close, close_facts}
use Rattle.storage_model.proofs.Keeps.{loan_open}
use Rattle.storage_model.proofs.storage.Storage.set_closed.Goals as goal

pub invariant_of-self : goal.invariant_of-self
invariant_of-self c =
    let s = c.args.self.now in
    let x = c.index_mut-held.result.now in
    let x' : HeldLoan = record x { is_open = false } in
    record {
      held = held_close s.loans.items c.args.loan x x' (loan_open s.loans.items c.args.loan c.requires.live) c.index_mut-held.ensures.value
          refl refl refl s.objects.items s.covers.items c.requires.last s.held;
    }

pub returns : goal.returns
returns c =
    let s = c.args.self.now in
    let x = c.index_mut-held.result.now in
    let x' : HeldLoan = record x { is_open = false } in
    close_facts s.loans.items c.args.loan x x' (loan_open s.loans.items c.args.loan c.requires.live) c.index_mut-held.ensures.value refl refl refl s.objects.items
