use Rattle.std.proofs.Common.{refl}
use Rattle.reg_alloc.proofs.Starting.{first_at, pushed}
use Rattle.reg_alloc.proofs.scan.starts_by_value.Goals as goal

pub loop-v-preserved : goal.loop-v-preserved
loop-v-preserved c =
    let r = pushed c.args.ranges.now c.loop-v.starts.items c.push.new.self.items c.loop-v.v _ c.in_ok-push.ensures.items c.loop-v.invariant.so_far c.loop-v-test.true refl (first_at c.args.ranges.now c.loop-v.v _ c.loop-v-test.true) c.loop-v.invariant.each c.loop-v.invariant.every in
    record { so_far = r.so_far; each = r.each; every = r.every }
