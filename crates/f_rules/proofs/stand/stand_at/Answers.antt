use Rattle.std.proofs.Common.{◌≡◌, Option, Some, slice_get, sym, ap, ◌∙◌}
use Rattle.std.specs.Option.{option_copied}
use Rattle.f_rules.proofs.Finding.{stands}
use Rattle.f_rules.proofs.stand.stand_at.Goals as goal

pub returns-in-Some : goal.returns-in-Some
returns-in-Some c =
    let parts = c.parts-parts.result in
    let is : slice_get parts.items.now c.args.place ≡ Some c.in-Some.placed.now = sym c.item_at.ensures ∙ ap option_copied c.in-Some.is in
    stands c.args.program.now parts.scopes.now parts.items.now parts.own.now c.parts-parts.ensures c.args.place c.in-Some.placed.now is c.host_in.result c.host_in.ensures
