use Rattle.std.proofs.Common.{refl, arith}
use Rattle.std.specs.Prelude.{true}
use Rattle.std.specs.Vec.{with_item}
use Rattle.storage_model.specs.declared.held.HeldLoan.{HeldLoan}
use Rattle.storage_model.proofs.Keeps.{held_written, loan_there, byte_there}
use Rattle.storage_model.proofs.Updates.{written_facts}
use Rattle.storage_model.proofs.storage.Storage.set_written.Goals as goal

pub index_mut-held-requires : goal.index_mut-held-requires
index_mut-held-requires c = omega (arith, loan_there c.args.self.now.loans.items c.args.loan c.args.byte c.requires, c.args.self.now.loans.ok.0)

pub index_mut-requires : goal.index_mut-requires
index_mut-requires c = omega (arith, byte_there c.args.self.now.loans.items c.args.loan c.args.byte c.index_mut-held.result.now c.requires c.index_mut-held.ensures.value, c.index_mut-held.result.now.bytes.ok.0)

pub invariant_of-self : goal.invariant_of-self
invariant_of-self c =
    let s = c.args.self.now in
    let x = c.index_mut-held.result.now in
    let b = c.index_mut.result.now in
    let x' : HeldLoan = record x { bytes = with_item x.bytes c.args.byte (record b { written = true }) } in
    record {
      held = held_written s.objects.items s.loans.items s.covers.items s.held _ c.args.loan c.args.byte
          (written_facts s.loans.items c.args.loan c.args.byte x x' b (record b { written = true })
          (loan_there s.loans.items c.args.loan c.args.byte c.requires) c.index_mut-held.ensures.value
          (byte_there s.loans.items c.args.loan c.args.byte x c.requires c.index_mut-held.ensures.value) c.index_mut.ensures.value
          refl refl refl refl s.objects.items refl refl);
    }

pub returns-clause-marks : goal.returns-clause-marks
returns-clause-marks c =
    let s = c.args.self.now in
    let x = c.index_mut-held.result.now in
    let b = c.index_mut.result.now in
    let x' : HeldLoan = record x { bytes = with_item x.bytes c.args.byte (record b { written = true }) } in
    written_facts s.loans.items c.args.loan c.args.byte x x' b (record b { written = true })
    (loan_there s.loans.items c.args.loan c.args.byte c.requires) c.index_mut-held.ensures.value
    (byte_there s.loans.items c.args.loan c.args.byte x c.requires c.index_mut-held.ensures.value) c.index_mut.ensures.value
    refl refl refl refl s.objects.items refl refl
