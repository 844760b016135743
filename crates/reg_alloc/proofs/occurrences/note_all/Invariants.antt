use Rattle.std.proofs.Common.{◌≡◌, length}
use Rattle.flatten.specs.Named.{AllBelow}
use Rattle.reg_alloc.specs.Occurs.{all_by}
use Rattle.reg_alloc.proofs.occurrences.note_all.Given as goal

abbrev pub invariant-loop-v : goal.invariant-loop-v
invariant-loop-v l = record {
  len : length l.rows.items ≡ length l.initial.rows.items;
  below : AllBelow (length l.keys) l.rest;
  rows : all_by l.keys l.at.block l.at.insn l.at.sets l.rest l.rows.items ≡ all_by l.keys l.at.block l.at.insn l.at.sets l.values l.initial.rows.items;
}

abbrev pub decreases-loop-v : goal.decreases-loop-v
decreases-loop-v l = length l.rest
