use Rattle.std.proofs.Common.{◌≡◌, drop}
use Rattle.emitted_code.specs.Straight.{lines}
use Rattle.emitted_code.specs.Code.{give_results}
use Rattle.rv_emit.proofs.homes.give_results.Given as goal

abbrev pub invariant-loop-i : goal.invariant-loop-i
invariant-loop-i l = l.out ≡ lines (give_results l.f l.i (drop l.i l.ys)) l.initial.out
