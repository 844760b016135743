use Rattle.std.proofs.Common.{◌≡◌, sym, ◌∙◌, subst}
use Rattle.f_scope.specs.Program.{Outline}
use Rattle.f_rules.specs.declared.declared_types.PartType.{PartType}
use Rattle.f_rules.specs.PartTypes.{ComponentFound, ComponentTold}
use Rattle.f_rules.proofs.Types.{component_told}
use Rattle.f_rules.proofs.parts.component_type.Goals as goal

pub returns-in-Derived : goal.returns-in-Derived
returns-in-Derived c =
    let p = c.args.program.now.items in
    let O : Outline → Type 0 = λ o. ComponentFound o.items c.in-Derived.definition c.args.name.now c.component_at.result in
    let B : PartType → Type 0 = λ b. ComponentTold p b c.args.name.now c.type_where.result in
    subst B (sym c.in-Derived.is) (component_told p c.in-Derived.definition c.args.name.now c.component_at.result (subst O (c.program.ensures ∙ c.stated.ensures) c.component_at.ensures) c.type_where.result c.type_where.ensures)
