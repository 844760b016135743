use Rattle.std.proofs.Common.{sym, ◌∙◌, arith}
use Rattle.storage_model.specs.declared.cell.View.TheVariants.{Loan}
use Rattle.storage_model.specs.Storage.{at}
use Rattle.storage_model.specs.Chain.{same_place, chain_of}
use Rattle.storage_model.specs.Model.{model}
use Rattle.storage_model.proofs.Steps.{in_bytes, step, any_step}
use Rattle.storage_model.proofs.storage.Storage.passes.Goals as goal

pub index-requires-in-Loan : goal.index-requires-in-Loan
index-requires-in-Loan c =
    let b = in_bytes c.args.self.now c.loop-at.at c.loop-at.invariant.good c.in-Loan.l c.in-Loan.is c.index.result.now c.index.ensures in
    omega (arith, b, c.index.result.now.bytes.ok.0)

pub loop-at-smaller : goal.loop-at-smaller
loop-at-smaller c =
    (step c.args.self.now c.loop-at.at c.loop-at.invariant.good c.in-Loan.l c.in-Loan.is c.index.result.now c.index.ensures c.index-in-Loan.result.now c.index-in-Loan.ensures).less

pub loop-at-preserved : goal.loop-at-preserved
loop-at-preserved c =
    let m = model c.args.self.now in
    let p = c.loop-at.at in
    let q = c.index-in-Loan.result.now.place in
    let t = step c.args.self.now p c.loop-at.invariant.good c.in-Loan.l c.in-Loan.is c.index.result.now c.index.ensures c.index-in-Loan.result.now c.index-in-Loan.ensures in
    record {
      good = t.good;
      same = c.loop-at.invariant.same
          ∙ any_step (same_place (at (Loan c.args.loan) c.args.byte)) p (chain_of m p) (chain_of m q) t.chain (sym c.is.ensures ∙ c.if-is.false);
    }
