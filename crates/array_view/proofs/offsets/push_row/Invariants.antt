use Rattle.std.proofs.Common.{◌≡◌, ◌++◌, map, take}
use Rattle.array_view.specs.Elements.{moved_in_64_bits}
use Rattle.array_view.proofs.offsets.push_row.Given as goal

abbrev pub invariant-loop-k : goal.invariant-loop-k
invariant-loop-k l = l.out.items ≡ l.initial.out.items ++ map (moved_in_64_bits l.dim l.offset) (take l.k-index l.ks)
