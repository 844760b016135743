use Rattle.std.proofs.Common.{◌≡◌, sym, ◌∙◌, ap, subst, arith}
use Rattle.std.specs.Prelude.{true}
use Rattle.storage_model.specs.Storage.{Good, is_memory}
use Rattle.storage_model.specs.Access.{write_one}
use Rattle.storage_model.specs.Marks.{written_set}
use Rattle.storage_model.specs.Model.{model}
use Rattle.storage_model.proofs.Steps.{in_bytes, step}
use Rattle.storage_model.proofs.Writes.{write_step, write_end, good_written_set}
use Rattle.storage_model.proofs.storage.Storage.write_byte.Goals as goal

pub index-requires-in-Loan : goal.index-requires-in-Loan
index-requires-in-Loan c =
    let b = in_bytes c.loop-q.self c.loop-q.q c.loop-q.invariant.good c.in-Loan.l c.in-Loan.is c.index.result.now c.index.ensures in
    omega (arith, b, c.index.result.now.bytes.ok.0)

pub loop-q-smaller : goal.loop-q-smaller
loop-q-smaller c =
    (step c.loop-q.self c.loop-q.q c.loop-q.invariant.good c.in-Loan.l c.in-Loan.is c.index.result.now c.index.ensures c.index-in-Loan.result.now c.index-in-Loan.ensures).less

pub loop-q-preserved : goal.loop-q-preserved
loop-q-preserved c =
    let s = c.loop-q.self in
    let m = model s in
    let p = c.loop-q.q in
    let q = c.index-in-Loan.result.now.place in
    let t = step s p c.loop-q.invariant.good c.in-Loan.l c.in-Loan.is c.index.result.now c.index.ensures c.index-in-Loan.result.now c.index-in-Loan.ensures in
    let e = c.set_written.ensures.marks in
    record {
      good = subst (λ x. Good x q) (sym e) (good_written_set m c.in-Loan.l p.offset q t.good);
      memory = subst (λ x. is_memory x q ≡ true) (sym e) t.memory;
      rest = ap (λ x. write_one x q c.args.cell) e
          ∙ ap (λ x. write_one (written_set m c.in-Loan.l p.offset) x c.args.cell) (sym t.next)
          ∙ write_step m s.held.sound p c.loop-q.invariant.good c.in-Loan.l c.in-Loan.is c.args.cell
          ∙ c.loop-q.invariant.rest;
    }

pub returns-in-Home : goal.returns-in-Home
returns-in-Home c =
    c.set_cell.ensures.cells
    ∙ write_end (model c.loop-q.self) c.loop-q.self.held.sound c.loop-q.q c.loop-q.invariant.good c.in-Home.o c.in-Home.is c.args.cell
    ∙ c.loop-q.invariant.rest
