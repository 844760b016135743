use Rattle.std.proofs.Common.{◌≡◌, drop}
use Rattle.emitted_code.specs.Straight.{lines}
use Rattle.emitted_code.specs.Code.{take_results}
use Rattle.rv_emit.proofs.homes.take_results.Given as goal

abbrev pub invariant-loop-i : goal.invariant-loop-i
invariant-loop-i l = l.out ≡ lines (take_results l.f l.i (drop l.i l.xs)) l.initial.out
