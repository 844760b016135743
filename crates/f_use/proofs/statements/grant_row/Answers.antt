use Rattle.f_use.proofs.Grants.{row_none, row_some}
use Rattle.f_use.proofs.statements.grant_row.Goals as goal

pub returns-in-None : goal.returns-in-None
returns-in-None c = row_none c.args.stated.now.items c.args.scope c.args.module_name.now c.args.source c.args.names.now c.args.table.now c.args.number c.in-None.ensures

pub returns-in_ok-grant_unless_renamed-in-Some : goal.returns-in_ok-grant_unless_renamed-in-Some
returns-in_ok-grant_unless_renamed-in-Some c = row_some c.args.stated.now.items c.args.scope c.args.module_name.now c.args.source c.args.names.now c.args.table.now c.grant_unless_renamed.new.table c.args.number (c.in-Some.row.0.now, c.in-Some.row.1) c.in-Some.ensures c.in_ok-grant_unless_renamed-in-Some.ensures
