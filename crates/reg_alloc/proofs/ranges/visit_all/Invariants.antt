use Rattle.std.proofs.Common.{◌≡◌, ◌<◌, length}
use Rattle.reg_alloc.specs.Occurs.{Each, hull, marked, stacked}
use Rattle.reg_alloc.proofs.ranges.visit_all.Given as goal

abbrev pub invariant-loop-o : goal.invariant-loop-o
invariant-loop-o l = record {
  within : Each (λ o. o.block < length l.marks.items) l.rest;
  marks : marked l.mark l.rest l.marks.items ≡ marked l.mark l.occurrences l.initial.marks.items;
  stack : stacked l.mark l.rest l.marks.items l.stack.items ≡ stacked l.mark l.occurrences l.initial.marks.items l.initial.stack.items;
  range : hull l.rest l.range ≡ hull l.occurrences l.initial.range;
}

abbrev pub decreases-loop-o : goal.decreases-loop-o
decreases-loop-o l = length l.rest
