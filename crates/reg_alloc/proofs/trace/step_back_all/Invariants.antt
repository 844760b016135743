use Rattle.std.proofs.Common.{◌≡◌, ℕ, ◌+◌, ◌<◌, ◌≤◌, List, Bool, length}
use Rattle.reg_alloc.specs.Occurs.{Each, unmarked}
use Rattle.reg_alloc.specs.Trace.{SteppedAll}
use Rattle.reg_alloc.proofs.trace.step_back_all.Given as goal

abbrev pub invariant-loop-o : goal.invariant-loop-o
invariant-loop-o l = record {
  blocks : Each (λ o. o.block < length l.fn.facts.proc.now.blocks) l.rest;
  count : length l.claims.items ≡ length l.initial.claims.items;
  falls : unmarked l.v l.claims.items + length l.stack.items ≤ unmarked l.v l.initial.claims.items + length l.initial.stack.items;
  stepped : (claims' stack' : List ℕ) (ok : Bool) → SteppedAll l.fn.facts.places.now l.fn.facts.proc.now l.v l.rest l.claims.items l.stack.items claims' stack' ok → SteppedAll l.fn.facts.places.now l.fn.facts.proc.now l.v l.sources l.initial.claims.items l.initial.stack.items claims' stack' ok;
}

abbrev pub decreases-loop-o : goal.decreases-loop-o
decreases-loop-o l = length l.rest
