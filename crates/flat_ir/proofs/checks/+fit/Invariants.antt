use Rattle.std.proofs.Common.{◌≡◌, length, drop}
use Rattle.flat_ir.specs.Checked.{stmt_fits}
use Rattle.flat_ir.specs.Exits.{answers_of}
use Rattle.flat_ir.specs.View.{stmts_of}
use Rattle.flat_ir.proofs.checks.+fit.Given as goal

abbrev pub invariant-stmts_names_fit-loop-i : goal.invariant-stmts_names_fit-loop-i
invariant-stmts_names_fit-loop-i l =
    l.fit ≡ stmt_fits l.counts.values l.counts.procs l.counts.bytes (length (answers_of l.exits)) (stmts_of (drop l.i l.stmts))
