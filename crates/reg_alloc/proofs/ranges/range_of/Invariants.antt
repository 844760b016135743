use Rattle.std.proofs.Common.{◌≡◌, ◌<◌, ◌+◌, length}
use Rattle.reg_alloc.specs.Occurs.{unmarked, in_blocks}
use Rattle.reg_alloc.specs.Ranges.{Covers, Search}
use Rattle.reg_alloc.proofs.ranges.range_of.Given as goal

abbrev pub invariant-loop-t : goal.invariant-loop-t
invariant-loop-t l = record {
  search : Search l.fn.p l.fn.v (l.fn.v + 1) (in_blocks l.fn.v 0 0 l.fn.p.blocks) l.marks.items l.stack.items l.range;
  param : l.fn.v < l.fn.p.params → Covers l.range 0;
}

abbrev pub decreases-loop-t : goal.decreases-loop-t
decreases-loop-t l = unmarked l.mark l.marks.items + length l.stack.items
