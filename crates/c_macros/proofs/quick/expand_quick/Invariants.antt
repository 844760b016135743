use Rattle.std.proofs.Common.{reverse}
use Rattle.c_macros.specs.Stack.{texts, load}
use Rattle.c_macros.specs.Remembering.{Live, frames}
use Rattle.c_macros.specs.Keeping.{AreTracked}
use Rattle.c_macros.proofs.quick.expand_quick.Given as goal

abbrev pub invariant-loop-level : goal.invariant-loop-level
invariant-loop-level l = Live (texts l.bodies) l.limit l.fn.token l.place l.fn.on l.fn.out.items l.on l.void (reverse l.stack.items) l.out.items × AreTracked l.void l.remembered.items

abbrev pub decreases-loop-level : goal.decreases-loop-level
decreases-loop-level l = load (texts l.bodies) l.on (frames (reverse l.stack.items))
