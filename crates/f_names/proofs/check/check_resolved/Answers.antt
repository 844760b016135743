use Rattle.std.proofs.Common.{◌≡◌, ℕ, List, Option, Some, None, refl, sym, ◌∙◌, subst}
use Rattle.f_scope.specs.Program.{Outline}
use Rattle.f_rules.specs.declared.declared_types.PartType.{PartType}
use Rattle.f_rules.specs.PartTypes.{ArePartTypes}
use Rattle.f_names.specs.declared.walk.Broken.{Broken}
use Rattle.f_names.specs.Lists.{ArePlaces}
use Rattle.f_names.specs.Walk.{FirstOf}
use Rattle.f_names.proofs.Walking.{broken_first, kept_all}
use Rattle.f_names.proofs.check.check_resolved.Goals as goal

pub first_of-first-requires : goal.first_of-first-requires
first_of-first-requires c =
    let T : List PartType → Type 0 = λ t. ArePartTypes c.args.resolved.program.items t in
    subst T (sym c.as_slice-2.ensures.value) c.in_ok-types.ensures

pub returns-in-Some : goal.returns-in-Some
returns-in-Some c =
    let p = c.args.resolved.program.items in
    let lists = c.in_ok-lists.lists.items in
    let order = c.args.resolved.order.items in
    let A : Outline → Type 0 = λ v. ArePlaces v.items lists in
    let F : List (List ℕ) → Type 0 = λ l. FirstOf p l c.as_slice-4.result.now c.first_of-first.result in
    let G : List ℕ → Type 0 = λ l. FirstOf p lists l c.first_of-first.result in
    let R : Option Broken → Type 0 = λ r. FirstOf p lists order r in
    broken_first p lists (subst A (c.program.ensures ∙ c.stated.ensures) c.in_ok-lists.ensures) c.requires.names c.requires.resolved.no_cycle order c.requires.resolved.order_is c.in-Some.broken
    (subst R c.in-Some.is (subst G c.as_slice-4.ensures.value (subst F c.as_slice-3.ensures.value c.first_of-first.ensures)))

pub returns-in-None : goal.returns-in-None
returns-in-None c =
    let p = c.args.resolved.program.items in
    let lists = c.in_ok-lists.lists.items in
    let order = c.args.resolved.order.items in
    let A : Outline → Type 0 = λ v. ArePlaces v.items lists in
    let F : List (List ℕ) → Type 0 = λ l. FirstOf p l c.as_slice-4.result.now c.first_of-first.result in
    let G : List ℕ → Type 0 = λ l. FirstOf p lists l c.first_of-first.result in
    let R : Option Broken → Type 0 = λ r. FirstOf p lists order r in (
      refl,
      c.requires.resolved,
      kept_all p lists (subst A (c.program.ensures ∙ c.stated.ensures) c.in_ok-lists.ensures) c.requires.names c.requires.resolved.no_cycle order c.requires.resolved.order_is
          (subst R c.in-None.is (subst G c.as_slice-4.ensures.value (subst F c.as_slice-3.ensures.value c.first_of-first.ensures))),
    )
