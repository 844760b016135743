use Rattle.c_macros.specs.Keeping.{AreTracked}
use Rattle.c_macros.proofs.macros.forget.Given as goal

abbrev pub invariant-loop-name : goal.invariant-loop-name
invariant-loop-name l = AreTracked l.void l.remembered.items

abbrev pub decreases-loop-name : goal.decreases-loop-name
decreases-loop-name l = goal.left-loop-name l
