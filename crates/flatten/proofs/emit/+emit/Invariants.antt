use Rattle.std.proofs.Common.{◌+◌, ◌≡◌, drop}
use Rattle.flat_ir.specs.View.{stmt_of, stmts_of}
use Rattle.flatten.specs.Emission.{emitted}
use Rattle.flatten.proofs.Weight.{weight}
use Rattle.flatten.proofs.emit.+emit.Given as goal

abbrev pub decreases-emit_stmt : goal.decreases-emit_stmt
decreases-emit_stmt l = weight (stmt_of l.s.now)

abbrev pub decreases-emit_stmts : goal.decreases-emit_stmts
decreases-emit_stmts l = weight (stmts_of l.stmts.now)

abbrev pub decreases-emit_if : goal.decreases-emit_if
decreases-emit_if l = weight (stmts_of l.a.now) + weight (stmts_of l.b.now) + 1

abbrev pub decreases-emit_loop : goal.decreases-emit_loop
decreases-emit_loop l = weight (stmts_of l.body.now) + 1

abbrev pub invariant-emit_stmts-loop-i : goal.invariant-emit_stmts-loop-i
invariant-emit_stmts-loop-i l = l.out ≡ emitted (stmts_of (drop l.i l.stmts)) l.initial.out
