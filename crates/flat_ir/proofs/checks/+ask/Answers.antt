use Rattle.flat_ir.specs.Exits.{answers_of}
use Rattle.flat_ir.proofs.Rows.{asks_if}
use Rattle.flat_ir.proofs.checks.+ask.Goals as goal

pub stmt_asks-returns-in-If : goal.stmt_asks-returns-in-If
stmt_asks-returns-in-If t c =
    asks_if c.args.x c.args.s.now c.in-If.e c.in-If.a c.in-If.b c.as_slice.result.now c.as_slice-in-If.result.now c.args.after (answers_of c.args.exits.now)
    c.stmts_ask-first.result c.stmts_ask-second.result c.test_or_sides_ask.result c.in-If.is c.as_slice.ensures c.as_slice-in-If.ensures c.stmts_ask-first.ensures c.stmts_ask-second.ensures c.test_or_sides_ask.ensures
