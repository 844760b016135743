use Rattle.std.proofs.Common.{◌+◌, length}
use Rattle.reg_alloc.specs.Trace.{Reaching, unreached}
use Rattle.reg_alloc.proofs.reach.reached_of.Given as goal

abbrev pub invariant-loop-b : goal.invariant-loop-b
invariant-loop-b l = Reaching l.p l.reached.items l.stack.items

abbrev pub decreases-loop-b : goal.decreases-loop-b
decreases-loop-b l = unreached l.reached.items + length l.stack.items
