use Rattle.std.proofs.Common.{◌≡◌, drop}
use Rattle.flat_ir.specs.Checked.{asks}
use Rattle.flat_ir.specs.Exits.{answers_of}
use Rattle.flat_ir.specs.View.{stmts_of}
use Rattle.flat_ir.proofs.checks.+ask.Given as goal

abbrev pub invariant-stmts_ask-loop-i : goal.invariant-stmts_ask-loop-i
invariant-stmts_ask-loop-i l = l.answer ≡ asks l.x (stmts_of (drop l.i l.stmts)) l.initial.answer (answers_of l.exits)
