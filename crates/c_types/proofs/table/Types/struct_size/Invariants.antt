use Rattle.std.proofs.Common.{drop}
use Rattle.c_types.proofs.LayingOut.{Measuring}
use Rattle.c_types.proofs.table.Types.struct_size.Given as goal

abbrev pub invariant-loop-kind : goal.invariant-loop-kind
invariant-loop-kind l = Measuring l.self l.members l.end l.align (drop l.kind-index l.members)
