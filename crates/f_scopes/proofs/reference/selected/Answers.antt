use Rattle.std.proofs.Common.{ℕ, List, slice_get, ap, ◌∙◌, subst}
use Rattle.f_scope.specs.Program.{Outline}
use Rattle.f_scope.proofs.Scans.{some_one}
use Rattle.f_rules.specs.PartTypes.{ComponentOf}
use Rattle.f_scopes.proofs.Referring.{selects}
use Rattle.f_scopes.proofs.reference.selected.Goals as goal

pub returns : goal.returns
returns c l at =
    let p = c.args.program.now.items in
    let k = c.args.place in
    let h = c.requires.at in
    let one = some_one (slice_get p k) l h.0 at h.1 in
    let item = ap (λ x. x.item) one ∙ h.2 in
    let O : Outline → Type 0 = λ o. ComponentOf o.items c.args.base c.as_slice.result.now c.component_of.result in
    let N : List ℕ → Type 0 = λ n. ComponentOf p c.args.base n c.component_of.result in
    let component = subst N c.as_slice.ensures (subst O (c.program.ensures ∙ c.stated.ensures) c.component_of.ensures) in
    selects p c.requires.kept k l at c.args.name.now item c.args.base c.requires.base c.component_of.result component
