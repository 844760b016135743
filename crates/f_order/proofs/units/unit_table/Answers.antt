use Rattle.f_order.proofs.Numbers.{table_is}
use Rattle.f_order.proofs.units.unit_table.Goals as goal

pub returns : goal.returns
returns c =
    let parts = c.parts.result in
    table_is c.args.program.now parts.scopes.now parts.items.now parts.own.now c.parts.ensures c.in_ok-units.units.items c.in_ok-units.ensures
