use Rattle.std.proofs.Common.{◌≡◌, ℕ, List, Option, sym, ap, ◌∙◌, subst}
use Rattle.f_rules.specs.declared.declared_types.TypeStep.{TypeStep}
use Rattle.f_rules.specs.PartTypes.{TypeTold, NamesType, SelectorIs, StepTold}
use Rattle.f_rules.proofs.Types.{of_none, of_derived, of_selector}
use Rattle.f_rules.proofs.declared_types.declared_step.Goals as goal

pub returns-in-NotDerived : goal.returns-in-NotDerived
returns-in-NotDerived c =
    let h = c.requires.at in
    of_none c.args.program.now.items c.args.place h.0 h.1 h.2 h.3 (h.5 ∙ c.in-NotDerived.is)

pub returns-in-Derived : goal.returns-in-Derived
returns-in-Derived c =
    let p = c.args.program.now.items in
    let h = c.requires.at in
    let N : List ℕ → Type 0 = λ n. TypeTold (NamesType p h.0.scopes n) c.named_type.result in
    of_derived p c.args.place h.0 h.1 h.2 h.3 c.in-Derived.name (h.5 ∙ c.in-Derived.is) c.named_type.result (subst N c.as_slice.ensures (c.named_type.ensures c.args.place h.0 h.2 h.4))

pub returns-in-OfSelector : goal.returns-in-OfSelector
returns-in-OfSelector c =
    let p = c.args.program.now.items in
    let k = c.args.place in
    let h = c.requires.at in
    let N : List ℕ → Type 0 = λ n. SelectorIs p h.0.scopes n k c.selector.result in
    let S : TypeStep → Type 0 = λ s. StepTold p k s in
    subst S (sym c.step_of.ensures) (of_selector p k h.0 h.1 h.2 h.3 c.in-OfSelector.name (h.5 ∙ c.in-OfSelector.is) c.selector.result (subst N c.as_slice-in-OfSelector.ensures (c.selector.ensures k h.0 h.2 h.4)))
