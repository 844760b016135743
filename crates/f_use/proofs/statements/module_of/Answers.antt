use Rattle.std.proofs.Common.{◌≡◌, subst}
use Rattle.f_scope.specs.Program.{Outline}
use Rattle.f_use.specs.Uses.{ModuleIn}
use Rattle.f_use.proofs.Grants.{module_in}
use Rattle.f_use.proofs.statements.module_of.Goals as goal

pub returns : goal.returns
returns c =
    let parts = c.parts-parts.result in
    let P : Outline → Type 0 = λ v. ModuleIn v c.args.name.now c.«module».result in
    subst P c.program-program.ensures (module_in c.program-program.result.now parts.scopes.now parts.items.now parts.own.now c.parts-parts.ensures c.args.name.now c.«module».result c.«module».ensures)
