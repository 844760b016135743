use Rattle.std.proofs.Common.{◌≡◌, Option, sym, ap, ◌∙◌, subst}
use Rattle.f_items.specs.declared.item.Class.{Class}
use Rattle.f_use.specs.Uses.{declared_class}
use Rattle.f_rules.specs.Standing.{ClassFound}
use Rattle.f_rules.proofs.Finding.{class_found}
use Rattle.f_rules.proofs.stand.class_at.Goals as goal

pub returns : goal.returns
returns c =
    let parts = c.parts.result in
    let P : Option Class → Type 0 = λ r. ClassFound c.args.program.now.items c.args.place r in
    subst P (sym (c.declared_class.ensures ∙ ap declared_class c.item_at.ensures)) (class_found c.args.program.now parts.scopes.now parts.items.now parts.own.now c.parts.ensures c.args.place)
