use Rattle.std.proofs.Common.{◌≡◌, ℕ, List, Option, slice_get, refl, sym, ap, ◌∙◌, subst}
use Rattle.f_scope.specs.Program.{Outline}
use Rattle.f_scope.proofs.Scans.{some_one}
use Rattle.f_use.specs.Uses.{ModuleIn}
use Rattle.f_rules.specs.declared.rule.NameRule.{NameRule}
use Rattle.f_rules.specs.RuleOf.{RuleFound, use_rule}
use Rattle.f_rules.proofs.Breaking.{used}
use Rattle.f_rules.proofs.broken.broken_use.Goals as goal

pub returns : goal.returns
returns c l at =
    let p = c.args.program.now.items in
    let k = c.args.place in
    let h = c.requires in
    let one = some_one (slice_get p k) l h.2 at h.3 in
    let item = ap (λ x. x.item) one ∙ h.4 in
    let M : Outline → Type 0 = λ v. ModuleIn v c.as_slice-name.result.now c.module_of-scope.result in
    let N : List ℕ → Type 0 = λ n. ModuleIn c.args.program.now n c.module_of-scope.result in
    let found = subst N c.as_slice-name.ensures (subst M (c.program.ensures ∙ c.stated.ensures) c.module_of-scope.ensures) in
    let R : Option NameRule → Type 0 = λ r. RuleFound p k l r in
    subst R (sym (c.use_rule.ensures ∙ ap (λ n. use_rule c.module_of-scope.result c.args.is_intrinsic n) c.as_slice-name.ensures))
    (used p k l h.0 c.args.«module».now c.args.is_intrinsic h.1 item c.args.program.now refl c.module_of-scope.result found)
