use Rattle.std.proofs.Common.{reverse}
use Rattle.c_macros.specs.Stack.{texts, Running, load}
use Rattle.c_macros.proofs.expander.expand.Given as goal

abbrev pub invariant-loop-frame : goal.invariant-loop-frame
invariant-loop-frame l = Running (texts l.bodies) l.limit l.fn.token l.place l.fn.on l.fn.out.items l.on (reverse l.stack.items) l.out.items

abbrev pub decreases-loop-frame : goal.decreases-loop-frame
decreases-loop-frame l = load (texts l.bodies) l.on (reverse l.stack.items)
