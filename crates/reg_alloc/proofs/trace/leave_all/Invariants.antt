use Rattle.std.proofs.Common.{◌≡◌, ◌<◌, length}
use Rattle.reg_alloc.specs.Occurs.{Each}
use Rattle.reg_alloc.specs.Trace.{left}
use Rattle.reg_alloc.proofs.trace.leave_all.Given as goal

abbrev pub invariant-loop-o : goal.invariant-loop-o
invariant-loop-o l = record {
  same : length l.last.items ≡ length l.initial.last.items;
  within : Each (λ o. o.block < length l.initial.last.items) l.rest;
  left : left l.rest l.last.items ≡ left l.occurrences l.initial.last.items;
}

abbrev pub decreases-loop-o : goal.decreases-loop-o
decreases-loop-o l = length l.rest
