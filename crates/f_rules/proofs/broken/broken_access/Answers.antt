use Rattle.std.proofs.Common.{◌≡◌, ℕ, List, Option, slice_get, sym, ap, ◌∙◌, subst}
use Rattle.f_items.specs.declared.item.Need.TheVariants as need
use Rattle.f_items.specs.Places.{around, scope_of}
use Rattle.f_items.specs.Accessible.{Visible, Denotes}
use Rattle.f_scope.specs.Program.{Outline}
use Rattle.f_scope.proofs.Scans.{some_one}
use Rattle.f_use.specs.Associated.{Found}
use Rattle.f_rules.specs.declared.rule.NameRule.{NameRule}
use Rattle.f_rules.specs.Standing.{ClassOf}
use Rattle.f_rules.specs.RuleOf.{RuleFound, reference_rule}
use Rattle.f_rules.proofs.Finding.{access_rule}
use Rattle.f_rules.proofs.broken.broken_access.Goals as goal

pub returns : goal.returns
returns c l at =
    let p = c.args.program.now.items in
    let access = c.requires.at.0 in
    let h = c.requires.at.1 in
    let one = some_one (slice_get p c.args.place) l h.0 at h.1 in
    let item = ap (λ x. x.item) one ∙ h.2 in
    let F : List ℕ → Type 0 = λ n. Found (Denotes p (scope_of l).number n) c.denoted-found.result in
    let number = ap (λ x. (scope_of x).number) one ∙ h.3 in
    let D : ℕ → Type 0 = λ s. Found (Denotes p s c.as_slice.result.now) c.denoted-found.result in
    let found = subst F c.as_slice.ensures (subst D (sym number) c.denoted-found.ensures) in
    let C : Outline → Type 0 = λ v. ClassOf v.items c.denoted-found.result c.class_of-class.result in
    let class = subst C (c.program.ensures ∙ c.stated.ensures) c.class_of-class.ensures in
    let R : Option NameRule → Type 0 = λ r. RuleFound p c.args.place l r in
    subst R (sym c.reference_rule.ensures) (access_rule p c.args.place l c.args.name.now access item c.denoted-found.result found c.class_of-class.result class)
