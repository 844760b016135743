use Rattle.std.proofs.Common.{◌≡◌, take}
use Rattle.array_view.specs.Elements.{rows_in_64_bits}
use Rattle.array_view.proofs.offsets.rows.Given as goal

abbrev pub invariant-loop-offset : goal.invariant-loop-offset
invariant-loop-offset l = l.out.items ≡ rows_in_64_bits l.dim l.ks (take l.offset-index l.offsets)
