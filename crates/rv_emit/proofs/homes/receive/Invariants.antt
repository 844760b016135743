use Rattle.std.proofs.Common.{◌≡◌}
use Rattle.emitted_code.specs.Straight.{lines}
use Rattle.emitted_code.specs.Code.{receive}
use Rattle.rv_emit.proofs.homes.receive.Given as goal

abbrev pub invariant-loop-i : goal.invariant-loop-i
invariant-loop-i l = lines (receive l.f l.i) l.out ≡ lines (receive l.f l.params) l.initial.out
