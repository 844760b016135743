use Rattle.std.proofs.Common.{◌≡◌, map, take}
use Rattle.first_flat.specs.Lowered.{call_stmt}
use Rattle.first_flat.proofs.lowering.call_stmts.Given as goal

abbrev pub invariant-loop-number : goal.invariant-loop-number
invariant-loop-number l = l.body.items ≡ map call_stmt (take l.number-index l.calls)
