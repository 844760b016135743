use Rattle.std.proofs.Common.{◌≡◌, drop}
use Rattle.emitted_code.specs.Straight.{lines}
use Rattle.emitted_code.specs.Code.{save}
use Rattle.rv_emit.proofs.homes.save.Given as goal

abbrev pub invariant-loop-i : goal.invariant-loop-i
invariant-loop-i l = l.out ≡ lines (save l.f (drop l.i l.registers)) l.initial.out
