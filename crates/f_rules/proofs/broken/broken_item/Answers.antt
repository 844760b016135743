use Rattle.std.proofs.Common.{◌≡◌, slice_get, sym, ap, ◌∙◌}
use Rattle.f_scope.proofs.Scans.{some_one}
use Rattle.f_rules.proofs.Breaking.{untyped}
use Rattle.f_rules.proofs.broken.broken_item.Goals as goal

pub returns-in-Untyped : goal.returns-in-Untyped
returns-in-Untyped c l at =
    let p = c.args.program.now.items in
    let one = some_one (slice_get p c.args.place) l c.requires.at.located at c.requires.at.at in
    untyped p c.args.place l c.in-Untyped.place (ap (λ x. x.item) one ∙ c.requires.at.item_is ∙ c.in-Untyped.is)
