use Rattle.std.proofs.Common.{◌≡◌, ℕ, List, ◌∷◌, Option, Some, None, refl, sym, subst}
use Rattle.std.proofs.lemmas.List.{nil_from_length}
use Rattle.f_rules.specs.declared.rule.NameRule.{NameRule}
use Rattle.f_rules.specs.RuleOf.{RuleAt}
use Rattle.f_names.specs.declared.walk.Broken.{Broken}
use Rattle.f_names.specs.Walk.{FirstIn}
use Rattle.f_names.proofs.Walking.{first_here, first_next, first_none}
use Rattle.f_names.proofs.walk.first_in.Goals as goal

pub returns-in-Some-broken_rule : goal.returns-in-Some-broken_rule
returns-in-Some-broken_rule c =
    let p = c.args.program.now.items in
    let b : Broken = record { place = c.in-Some.place.now; rule = c.in-Some-broken_rule.rule } in
    let R : Option NameRule → Type 0 = λ r. RuleAt p c.in-Some.place.now r in
    let P : List ℕ → Type 0 = λ l. FirstIn p l (Some b) in
    c.places.invariant (Some b) (subst P (sym c.in-Some.ensures.cases.0) (first_here p c.in-Some.place.now c.in-Some.behind.now b refl (subst R c.in-Some-broken_rule.is c.broken_rule.ensures)))

pub places-preserved : goal.places-preserved
places-preserved c = λ r f.
    let p = c.args.program.now.items in
    let R : Option NameRule → Type 0 = λ q. RuleAt p c.in-Some.place.now q in
    let P : List ℕ → Type 0 = λ l. FirstIn p l r in
    c.places.invariant r (subst P (sym c.in-Some.ensures.cases.0) (first_next p c.in-Some.place.now c.in-Some.behind.now r (subst R c.in-None.is c.broken_rule.ensures) f))

pub returns : goal.returns
returns c = c.places.invariant None (first_none c.args.program.now.items c.places.rest.now (nil_from_length c.places.rest.now c.in_default.ensures.cases))
