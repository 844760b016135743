use Rattle.std.proofs.Common.{◌≡◌, ◌∙◌, subst}
use Rattle.f_scope.specs.Program.{Outline, AreParts}
use Rattle.f_find.specs.Steps.{AreRows}
use Rattle.f_find.proofs.Outward.{visible_in}
use Rattle.f_find.proofs.scopes_around.visible.Goals as goal

pub visible_from-requires-clause-rows : goal.visible_from-requires-clause-rows
visible_from-requires-clause-rows c =
    let P : Outline → Type 0 = λ v. AreRows v c.parts.result.scopes.now in
    subst P (c.program.ensures ∙ c.stated.ensures) (record { hosts = c.parts.ensures.hosts; scopes_are = c.parts.ensures.scopes_are })

pub returns : goal.returns
returns c =
    let parts = c.parts.result in
    let P : Outline → Type 0 = λ v. AreParts v parts.scopes.now parts.items.now parts.own.now in
    visible_in c.args.program.now parts.scopes.now parts.items.now parts.own.now (subst P (c.program.ensures ∙ c.stated.ensures) c.parts.ensures) c.args.scope c.args.name.now c.visible_from.result c.visible_from.ensures
