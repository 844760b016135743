use Rattle.std.proofs.Common.{◌+◌, ◌≡◌, ◌≤◌, List, length}
use Rattle.flat_ir.specs.declared.program.FlatStmt.{FlatStmt}
use Rattle.flatten.specs.declared.measure.Measure.{Measure}
use Rattle.flat_ir.specs.View.{stmt_of, stmts_of}
use Rattle.flatten.specs.Emission.{measured}
use Rattle.flatten.proofs.Weight.{weight}
use Rattle.flatten.proofs.measure.+measure.Given as goal

abbrev pub decreases-measure_stmt : goal.decreases-measure_stmt
decreases-measure_stmt l = weight (stmt_of l.s.now)

abbrev pub decreases-measure_stmts : goal.decreases-measure_stmts
decreases-measure_stmts l = weight (stmts_of l.stmts.now)

abbrev pub decreases-measure_if : goal.decreases-measure_if
decreases-measure_if l = weight (stmts_of l.a.now) + weight (stmts_of l.b.now) + 1

abbrev pub decreases-measure_loop : goal.decreases-measure_loop
decreases-measure_loop l = weight (stmts_of l.body.now) + 1

pub record Read (rest first all : List FlatStmt) (m start : Measure) : Type 0 where
  pub same : measured (stmts_of rest) m ≡ measured (stmts_of first) start
  pub lighter : weight (stmts_of rest) ≤ weight (stmts_of all)

abbrev pub invariant-measure_stmts-loop-rest : goal.invariant-measure_stmts-loop-rest
invariant-measure_stmts-loop-rest l = Read l.rest l.initial.rest l.fn.stmts l.m l.initial.m

abbrev pub decreases-measure_stmts-loop-rest : goal.decreases-measure_stmts-loop-rest
decreases-measure_stmts-loop-rest l = length l.rest
