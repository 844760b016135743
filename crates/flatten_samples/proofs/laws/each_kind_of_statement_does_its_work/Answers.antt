use denote.Hole.Carrier.{hidden}
use Rattle.std.proofs.Common.{refl}
use Rattle.flat_ir.specs.Bytes.{poke, number, put, loaded, stored}
use Rattle.flat_ir.specs.declared.program.FlatExpr.TheBlock.{hidden-the_row-FlatExpr-0}
use Rattle.flat_ir.specs.declared.program.FlatStmt.TheBlock.{hidden-the_row-FlatStmt-0}
use Rattle.flatten.specs.Code.{code}
use Rattle.flatten_samples.proofs.laws.each_kind_of_statement_does_its_work.Goals as goal

pub returns-clause-first : goal.returns-clause-first
unfolding hidden-the_row-FlatExpr-0 hidden-the_row-FlatStmt-0 hidden poke number put loaded stored
returns-clause-first c = refl

pub returns-clause-before : goal.returns-clause-before
unfolding hidden-the_row-FlatExpr-0 hidden-the_row-FlatStmt-0 hidden poke number put loaded stored
returns-clause-before c = refl

pub returns-clause-last : goal.returns-clause-last
unfolding hidden-the_row-FlatExpr-0 hidden-the_row-FlatStmt-0 hidden poke number put loaded stored
returns-clause-last c = refl

pub returns-clause-blocks_none : goal.returns-clause-blocks_none
unfolding hidden-the_row-FlatExpr-0 hidden-the_row-FlatStmt-0 hidden poke number put loaded stored code
returns-clause-blocks_none c = refl

pub returns-clause-blocks_first : goal.returns-clause-blocks_first
unfolding hidden-the_row-FlatExpr-0 hidden-the_row-FlatStmt-0 hidden poke number put loaded stored code
returns-clause-blocks_first c = refl

pub returns-clause-blocks_before : goal.returns-clause-blocks_before
unfolding hidden-the_row-FlatExpr-0 hidden-the_row-FlatStmt-0 hidden poke number put loaded stored code
returns-clause-blocks_before c = refl

pub returns-clause-blocks_last : goal.returns-clause-blocks_last
unfolding hidden-the_row-FlatExpr-0 hidden-the_row-FlatStmt-0 hidden poke number put loaded stored code
returns-clause-blocks_last c = refl

pub returns-clause-no_input : goal.returns-clause-no_input
unfolding hidden-the_row-FlatExpr-0 hidden-the_row-FlatStmt-0 hidden poke number put loaded stored
returns-clause-no_input c = refl

pub returns-clause-blocks_no_input : goal.returns-clause-blocks_no_input
unfolding hidden-the_row-FlatExpr-0 hidden-the_row-FlatStmt-0 hidden poke number put loaded stored code
returns-clause-blocks_no_input c = refl
