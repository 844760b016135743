use Rattle.std.proofs.Common.{◌≡◌, ◌+◌, length, drop}
use Rattle.reg_alloc.specs.Occurs.{insns_by}
use Rattle.reg_alloc.proofs.occurrences.note_block.Given as goal

abbrev pub invariant-loop-i : goal.invariant-loop-i
invariant-loop-i l = record {
  len : length l.rows.items ≡ length l.initial.rows.items;
  rows : insns_by l.keys l.block (l.start + l.i) (drop l.i l.insns) l.fn.end l.rows.items ≡ insns_by l.keys l.block l.start l.insns l.fn.end l.initial.rows.items;
}
