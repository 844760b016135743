use Rattle.std.proofs.Common.{◌∙◌, arith}
use Rattle.std.specs.Vec.{vec_len}
use Rattle.storage_model.proofs.Stacks.{last_dropped}
use Rattle.storage_model.proofs.listing.drop_loan.Goals as goal

pub loop-stack-preserved : goal.loop-stack-preserved
loop-stack-preserved c m k ne e =
    last_dropped c.loop-stack.stack.items c.pop.new.self.items c.pop.result (vec_len c.loop-stack.stack) c.len-in-loop-stack.result c.index.result.now m k
    c.pop.ensures.items c.pop.ensures.value (omega arith) c.len-in-loop-stack.ensures c.index.ensures (λ q. ne (q ∙ c.if-index-loan.true)) (c.loop-stack.invariant m k ne e)
