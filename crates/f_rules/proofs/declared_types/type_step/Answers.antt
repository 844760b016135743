use Rattle.std.proofs.Common.{◌≡◌, ℕ, refl, sym, ap, ◌∙◌, subst}
use Rattle.f_items.specs.Places.{scope_of, host_of, At}
use Rattle.f_items.specs.Declarations.{declared_by}
use Rattle.f_scope.specs.Program.{Outline}
use Rattle.f_rules.proofs.declared_types.type_step.Goals as goal

pub declared_step-requires-clause-at : goal.declared_step-requires-clause-at
declared_step-requires-clause-at c =
    let here = c.in-Some.ensures in
    let l = here.located in
    let A : Outline → Type 0 = λ o. At o.items c.args.place l in
    (l, record { scope = (scope_of l).number; what = c.in-Declares.declared }, subst A (c.program.ensures ∙ c.stated.ensures) here.at, ap (λ i. declared_by i (scope_of l).number (host_of l).number) (here.item_is ∙ c.in-Declares.is), here.scope_is, refl)

pub declared_step-requires-in-Heads-clause-at : goal.declared_step-requires-in-Heads-clause-at
declared_step-requires-in-Heads-clause-at c =
    let here = c.in-Some.ensures in
    let l = here.located in
    let A : Outline → Type 0 = λ o. At o.items c.args.place l in
    (l, record { scope = (host_of l).number; what = c.in-Heads.declared }, subst A (c.program.ensures ∙ c.stated.ensures) here.at, ap (λ i. declared_by i (scope_of l).number (host_of l).number) (here.item_is ∙ c.in-Heads.is), here.scope_is, refl)
