use Rattle.std.proofs.Common.{◌≡◌, drop}
use Rattle.emitted_code.specs.Straight.{lines}
use Rattle.emitted_code.specs.Code.{restore}
use Rattle.rv_emit.proofs.homes.restore.Given as goal

abbrev pub invariant-loop-i : goal.invariant-loop-i
invariant-loop-i l = l.out ≡ lines (restore l.f (drop l.i l.registers)) l.initial.out
