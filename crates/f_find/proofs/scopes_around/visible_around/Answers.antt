use Rattle.std.proofs.Common.{◌≡◌, ◌<◌, ℕ, length, sym, ap, ◌∙◌, subst, arith}
use Rattle.f_items.specs.Accessible.{Visible}
use Rattle.f_scope.specs.Program.{Outline, AreParts}
use Rattle.f_scope.specs.Rows.{host_in, chain_of}
use Rattle.f_scope.proofs.Broken.{host_range}
use Rattle.f_use.specs.Associated.{Found}
use Rattle.f_find.specs.Steps.{AreRows}
use Rattle.f_find.proofs.Outward.{visible_around_in}
use Rattle.f_find.proofs.scopes_around.visible_around.Goals as goal

pub visible_from-requires-clause-rows : goal.visible_from-requires-clause-rows
visible_from-requires-clause-rows c =
    let P : Outline → Type 0 = λ v. AreRows v c.parts.result.scopes.now in
    subst P (c.program.ensures ∙ c.stated.ensures) (record { hosts = c.parts.ensures.hosts; scopes_are = c.parts.ensures.scopes_are })

pub visible_from-requires-clause-scope : goal.visible_from-requires-clause-scope
visible_from-requires-clause-scope c =
    let rows = c.parts.result.scopes.now in
    let P : Outline → Type 0 = λ v. length rows ≡ v.scopes in
    let count = subst P (c.program.ensures ∙ c.stated.ensures) c.parts.ensures.scopes_are in
    let within = c.requires in
    let lt : c.args.scope < length rows = omega (arith, count, within) in
    let range = host_range rows c.parts.ensures.hosts c.args.scope lt in
    let is = c.host_in.ensures in
    omega (arith, range, is, count)

pub returns : goal.returns
returns c =
    let parts = c.parts.result in
    let P : Outline → Type 0 = λ v. AreParts v parts.scopes.now parts.items.now parts.own.now in
    let Q : ℕ → Type 0 = λ h. Found (Visible c.args.program.now.items (chain_of parts.scopes.now h) c.args.name.now) c.visible_from.result in
    visible_around_in c.args.program.now parts.scopes.now parts.items.now parts.own.now (subst P (c.program.ensures ∙ c.stated.ensures) c.parts.ensures) c.args.scope c.args.name.now c.visible_from.result (subst Q c.host_in.ensures c.visible_from.ensures)
