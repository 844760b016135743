use Rattle.std.proofs.Common.{Option, sym, ◌∙◌, subst}
use Rattle.f_scope.specs.Program.{Outline}
use Rattle.f_use.specs.declared.origins.Origins.{Origins}
use Rattle.f_use.specs.Associated.{Found}
use Rattle.f_use.specs.Uses.{OwnEntity}
use Rattle.f_rules.specs.Standing.{IsIn}
use Rattle.f_rules.proofs.Finding.{entities}
use Rattle.f_scopes.proofs.reference.entities_in.Goals as goal

pub returns : goal.returns
returns c =
    let p = c.args.program.now.items in
    let s = c.args.scope in
    let name = c.args.name.now in
    let P : Outline → Type 0 = λ v. OwnEntity v.items s name c.entity_of-own.result in
    let R : Option Origins → Type 0 = λ r. Found (IsIn p s name) r in
    subst R (sym c.merge.ensures) (entities p s name c.entity_of-own.result (subst P (c.program.ensures ∙ c.stated.ensures) c.entity_of-own.ensures) c.used-used.result c.used-used.ensures)
