use Rattle.std.proofs.Common.{◌≡◌, drop}
use Rattle.emitted_code.specs.Straight.{lines}
use Rattle.emitted_code.specs.Code.{pass}
use Rattle.rv_emit.proofs.homes.pass.Given as goal

abbrev pub invariant-loop-i : goal.invariant-loop-i
invariant-loop-i l = l.out ≡ lines (pass l.f l.i (drop l.i l.ys)) l.initial.out
