use Rattle.std.proofs.Common.{◌≡◌, refl, sym, ◌∙◌}
use Rattle.f_find.proofs.Outward.{goes_on, body_goes_on}
use Rattle.f_find.proofs.scopes_around.continues.Goals as goal

pub returns-then-is_interface_body : goal.returns-then-is_interface_body
returns-then-is_interface_body c = body_goes_on c.args.program.now.items c.args.kind c.args.scope c.args.name.now c.is_imported.result (sym c.is_interface_body.ensures ∙ c.if-is_interface_body.true) c.is_imported.ensures

pub returns-else-is_interface_body : goal.returns-else-is_interface_body
returns-else-is_interface_body c = (λ _. goes_on c.args.program.now.items c.args.kind c.args.scope c.args.name.now (sym c.is_interface_body.ensures ∙ c.if-is_interface_body.false), λ _. refl)
