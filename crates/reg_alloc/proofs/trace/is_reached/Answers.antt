use Rattle.std.proofs.Common.{arith}
use Rattle.reg_alloc.proofs.Reached.{tells_reached}
use Rattle.reg_alloc.proofs.trace.is_reached.Goals as goal

pub bounds-reached-c : goal.bounds-reached-c
bounds-reached-c c = omega (arith, c.requires.block, c.requires.facts.reached_is.count)

pub returns : goal.returns
returns c = tells_reached c.args.facts.now.proc.now c.args.facts.now.reached.now c.args.c c.requires.facts.reached_is
