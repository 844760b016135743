use Rattle.f_use.proofs.Grants.{module_in}
use Rattle.f_scopes.proofs.reference.module_of.Goals as goal

pub returns : goal.returns
returns c =
    let parts = c.parts-parts.result in
    module_in c.args.program.now parts.scopes.now parts.items.now parts.own.now c.parts-parts.ensures c.args.name.now c.«module».result c.«module».ensures
