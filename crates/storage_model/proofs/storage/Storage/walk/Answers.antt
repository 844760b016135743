use Rattle.std.proofs.Common.{sym, ◌∙◌, ap, arith}
use Rattle.std.specs.Prelude.{not, ◌&&◌}
use Rattle.std.specs.List.{list_all}
use Rattle.storage_model.specs.Storage.{at}
use Rattle.storage_model.specs.Chain.{chain_of, aligned_to, may_write, not_read}
use Rattle.storage_model.specs.Model.{model}
use Rattle.storage_model.proofs.Steps.{in_bytes, step, all_step}
use Rattle.storage_model.proofs.storage.Storage.walk.Goals as goal

pub index-byte-requires : goal.index-byte-requires
index-byte-requires c =
    let b = in_bytes c.args.self.now c.loop-at.at c.loop-at.invariant.good c.in-Loan.l c.in-Loan.is c.index-loan.result.now c.index-loan.ensures in
    omega (arith, b, c.index-loan.result.now.bytes.ok.0)

pub loop-at-smaller : goal.loop-at-smaller
loop-at-smaller c =
    (step c.args.self.now c.loop-at.at c.loop-at.invariant.good c.in-Loan.l c.in-Loan.is c.index-loan.result.now c.index-loan.ensures c.index-byte.result.now c.index-byte.ensures).less

pub loop-at-preserved : goal.loop-at-preserved
loop-at-preserved c =
    let m = model c.args.self.now in
    let p = c.loop-at.at in
    let q = c.index-byte.result.now.place in
    let t = step c.args.self.now p c.loop-at.invariant.good c.in-Loan.l c.in-Loan.is c.index-loan.result.now c.index-loan.ensures c.index-byte.result.now c.index-byte.ensures in
    record {
      good = t.good;
      home = c.loop-at.invariant.home ∙ t.home;
      aligned = c.loop-at.invariant.aligned
          ∙ all_step (aligned_to c.args.align) p q (chain_of m p) (chain_of m q) c.loop-at.aligned c.is_multiple.result t.chain (sym c.is_multiple.ensures)
          ∙ ap (λ x. x && list_all (aligned_to c.args.align) (chain_of m q)) (sym c.both-aligned.ensures);
      writable = c.loop-at.invariant.writable
          ∙ all_step (may_write m) p q (chain_of m p) (chain_of m q) c.loop-at.writable c.index-loan.result.now.writable t.chain
          (ap (λ v. may_write m (at v p.offset)) c.in-Loan.is ∙ t.writable)
          ∙ ap (λ x. x && list_all (may_write m) (chain_of m q)) (sym c.both-writable.ensures);
      unread = c.loop-at.invariant.unread
          ∙ all_step (not_read m) p q (chain_of m p) (chain_of m q) c.loop-at.unread (not c.index-byte.result.now.read) t.chain
          (ap (λ v. not_read m (at v p.offset)) c.in-Loan.is ∙ ap not t.read)
          ∙ ap (λ x. x && list_all (not_read m) (chain_of m q)) (sym c.both-unread.ensures);
    }
