use Rattle.std.proofs.Common.{◌≡◌, ℕ, sym, ap, ◌∙◌, subst}
use Rattle.f_scope.specs.Own.{IsTold}
use Rattle.f_rules.proofs.Types.{components, type_class}
use Rattle.f_rules.proofs.declared_types.component_at.Goals as goal

pub returns-then-is_type : goal.returns-then-is_type
returns-then-is_type c =
    let p = c.args.program.now.items in
    let name = c.args.name.now in
    let here = c.in-Some.ensures in
    let what = c.in-Heads.declared in
    let T : ℕ → Type 0 = λ s. IsTold p s name c.declared.result in
    components p c.args.definition here.located what here.at (here.item_is ∙ c.in-Heads.is) (type_class what.class (sym c.is_type.ensures ∙ c.if-is_type.true)) name c.declared.result (subst T (sym here.scope_is) c.declared.ensures)
