use Rattle.std.proofs.Common.{drop}
use Rattle.emitted_code.specs.Placed.{AllBytes}
use Rattle.back_end.proofs.chain.read_bytes.Given as goal

abbrev pub invariant-loop-i : goal.invariant-loop-i
invariant-loop-i l = AllBytes (drop l.i l.bytes)
