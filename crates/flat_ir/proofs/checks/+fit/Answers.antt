use Rattle.std.proofs.Common.{length}
use Rattle.flat_ir.specs.Exits.{answers_of}
use Rattle.flat_ir.proofs.Rows.{fits_if}
use Rattle.flat_ir.proofs.checks.+fit.Goals as goal

pub stmt_names_fit-returns-in-If : goal.stmt_names_fit-returns-in-If
stmt_names_fit-returns-in-If t c =
    fits_if c.args.counts.values c.args.counts.procs c.args.counts.bytes (length (answers_of c.args.exits.now)) c.args.s.now c.in-If.e c.in-If.a c.in-If.b c.as_slice.result.now c.as_slice-in-If.result.now
    c.stmts_names_fit-first.result c.stmts_names_fit-second.result c.test_and_sides_fit.result c.in-If.is c.as_slice.ensures c.as_slice-in-If.ensures c.stmts_names_fit-first.ensures c.stmts_names_fit-second.ensures c.test_and_sides_fit.ensures
