use Rattle.std.proofs.Common.{◌≡◌, ℕ, List, Option, slice_get, sym, ap, ◌∙◌, subst}
use Rattle.f_items.specs.declared.item.Need.TheVariants as need
use Rattle.f_items.specs.Places.{around, scope_of}
use Rattle.f_items.specs.Accessible.{Visible, Denotes}
use Rattle.f_scope.specs.Program.{Outline}
use Rattle.f_scope.proofs.Scans.{some_one}
use Rattle.f_use.specs.Associated.{Found}
use Rattle.f_rules.specs.declared.rule.NameRule.{NameRule}
use Rattle.f_rules.specs.Standing.{ClassOf}
use Rattle.f_rules.specs.RuleOf.{RuleFound, reference_rule}
use Rattle.f_rules.proofs.Finding.{refers_rule}
use Rattle.f_rules.proofs.broken.broken_reference.Goals as goal

pub returns : goal.returns
returns c l at =
    let p = c.args.program.now.items in
    let h = c.requires.at in
    let one = some_one (slice_get p c.args.place) l h.0 at h.1 in
    let item = ap (λ x. x.item) one ∙ h.2 in
    let F : List ℕ → Type 0 = λ n. Found (Visible p l.scopes n) c.visible-found.result in
    let found = subst F c.as_slice.ensures (c.visible-found.ensures c.args.place l at (ap (λ x. (scope_of x).number) one ∙ h.3)) in
    let C : Outline → Type 0 = λ v. ClassOf v.items c.visible-found.result c.class_of-class.result in
    let class = subst C (c.program.ensures ∙ c.stated.ensures) c.class_of-class.ensures in
    let R : Option NameRule → Type 0 = λ r. RuleFound p c.args.place l r in
    subst R (sym c.reference_rule.ensures) (refers_rule p c.args.place l c.args.name.now c.args.need item c.visible-found.result found c.class_of-class.result class)
