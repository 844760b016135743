use Rattle.std.proofs.Common.{◌≡◌, drop}
use Rattle.flat_ir.specs.View.{exprs_of}
use Rattle.flatten.specs.Code.{spares}
use Rattle.flatten.proofs.measure.spare_of_all.Given as goal

abbrev pub invariant-loop-i : goal.invariant-loop-i
invariant-loop-i l = l.all ≡ spares (exprs_of (drop l.i l.es))
