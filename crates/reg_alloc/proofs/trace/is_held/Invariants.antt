use Rattle.std.proofs.Common.{ℕ, ◌+◌, [], length}
use Rattle.reg_alloc.specs.Occurs.{unmarked}
use Rattle.reg_alloc.specs.Trace.{Trace}
use Rattle.reg_alloc.proofs.trace.is_held.Given as goal

abbrev pub invariant-loop-t : goal.invariant-loop-t
invariant-loop-t l = (now : ℕ) × Trace l.fn.facts.places.now l.fn.facts.proc.now l.fn.v l.fn.b l.claims.items l.stack.items now []

abbrev pub decreases-loop-t : goal.decreases-loop-t
decreases-loop-t l = unmarked l.fn.v l.claims.items + length l.stack.items
