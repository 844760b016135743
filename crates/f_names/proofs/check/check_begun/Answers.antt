use Rattle.std.proofs.Common.{◌≡◌, ℕ, List, sym, ◌∙◌, subst}
use Rattle.f_items.specs.Order.{IsOnCycle}
use Rattle.f_items.specs.Scoped.{IsNamedTwice, IsFirst}
use Rattle.f_scope.specs.Program.{Outline}
use Rattle.f_order.specs.declared.resolved.Resolution.{Resolution}
use Rattle.f_order.specs.Resolved.{IsResolution, IsResolved}
use Rattle.f_names.proofs.Walking.{on_cycle}
use Rattle.f_names.proofs.check.check_begun.Goals as goal

pub check_resolved-requires-clause-names : goal.check_resolved-requires-clause-names
check_resolved-requires-clause-names c =
    let R : Resolution → Type 0 = λ r. IsResolution c.in_ok-stated.stated r in
    let is : IsResolved c.in_ok-stated.stated c.in-Resolved.resolved = subst R c.in-Resolved.is c.in_ok-place.ensures in
    let N : Outline → Type 0 = λ v. (k : ℕ) → IsNamedTwice v.items k → ⊥ in
    subst N (sym (is.program_is ∙ c.in_ok-stated.ensures)) c.requires.names

pub returns-in-OnCycle : goal.returns-in-OnCycle
returns-in-OnCycle c =
    let R : Resolution → Type 0 = λ r. IsResolution c.in_ok-stated.stated r in
    let first : IsFirst (IsOnCycle c.in_ok-stated.stated.items) c.in-OnCycle.place = subst R c.in-OnCycle.is c.in_ok-place.ensures in
    let F : Outline → Type 0 = λ v. IsFirst (IsOnCycle v.items) c.in-OnCycle.place in
    on_cycle c.args.program.items c.in-OnCycle.place c.requires.names (subst F c.in_ok-stated.ensures first)
