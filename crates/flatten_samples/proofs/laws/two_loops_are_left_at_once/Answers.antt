use denote.Hole.Carrier.{hidden}
use Rattle.std.proofs.Common.{refl}
use Rattle.flat_ir.specs.declared.program.FlatExpr.TheBlock.{hidden-the_row-FlatExpr-0}
use Rattle.flat_ir.specs.declared.program.FlatStmt.TheBlock.{hidden-the_row-FlatStmt-0}
use Rattle.flatten.specs.Code.{code}
use Rattle.flatten_samples.proofs.laws.two_loops_are_left_at_once.Goals as goal

pub returns-clause-goes : goal.returns-clause-goes
unfolding hidden-the_row-FlatExpr-0 hidden-the_row-FlatStmt-0 hidden
returns-clause-goes c = refl

pub returns-clause-ends : goal.returns-clause-ends
unfolding hidden-the_row-FlatExpr-0 hidden-the_row-FlatStmt-0 hidden
returns-clause-ends c = refl

pub returns-clause-blocks_go : goal.returns-clause-blocks_go
unfolding hidden-the_row-FlatExpr-0 hidden-the_row-FlatStmt-0 hidden code
returns-clause-blocks_go c = refl

pub returns-clause-blocks_end : goal.returns-clause-blocks_end
unfolding hidden-the_row-FlatExpr-0 hidden-the_row-FlatStmt-0 hidden code
returns-clause-blocks_end c = refl
