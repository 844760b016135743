use Rattle.std.proofs.Common.{arith}
use Rattle.storage_model.proofs.Stacks.{table_set}
use Rattle.storage_model.proofs.listing.drop_cover.Goals as goal

pub returns-then-byte-len : goal.returns-then-byte-len
returns-then-byte-len c = record {
  kept = λ i l k ne e. table_set c.args.table.now.items c.args.byte c.index_mut.result.now c.drop_loan.new.stack l k
      (omega (arith, c.args.table.now.ok.0)) c.index_mut.ensures.value (c.drop_loan.ensures l k ne) i e;
}
