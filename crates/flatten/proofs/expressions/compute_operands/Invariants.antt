use Rattle.std.proofs.Common.{◌+◌, ◌≡◌, drop}
use Rattle.flat_ir.specs.View.{exprs_of}
use Rattle.flatten.specs.Code.{operands}
use Rattle.flatten.specs.Emission.{changed}
use Rattle.flatten.proofs.expressions.compute_operands.Given as goal

abbrev pub invariant-loop-i : goal.invariant-loop-i
invariant-loop-i l = l.out ≡ changed (operands (exprs_of (drop l.i l.es)) (l.spare + l.i) l.initial.out.current) l.initial.out
