use Rattle.c_macros.proofs.Tracked.{one_fewer}
use Rattle.c_macros.proofs.macros.forget.Goals as goal

pub loop-name-preserved : goal.loop-name-preserved
loop-name-preserved c = one_fewer c.loop-name.void c.set.new.flags c.loop-name.remembered.items c.pop.new.self.items c.in-Some.name c.in-Some.ensures.items c.set.ensures c.loop-name.invariant
