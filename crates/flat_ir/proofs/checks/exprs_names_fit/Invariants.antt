use Rattle.std.proofs.Common.{◌≡◌, length}
use Rattle.flat_ir.specs.Checked.{exprs_fit}
use Rattle.flat_ir.specs.View.{exprs_of}
use Rattle.flat_ir.proofs.checks.exprs_names_fit.Given as goal

abbrev pub invariant-loop-rest : goal.invariant-loop-rest
invariant-loop-rest l = exprs_fit l.counts.values l.counts.procs l.counts.bytes (exprs_of l.initial.rest) ≡ exprs_fit l.counts.values l.counts.procs l.counts.bytes (exprs_of l.rest)

abbrev pub decreases-loop-rest : goal.decreases-loop-rest
decreases-loop-rest l = length l.rest
