use Rattle.std.proofs.Common.{ℕ, List, Option, slice_get, sym, ap, ◌∙◌, subst}
use Rattle.f_items.specs.Places.{scope_of}
use Rattle.f_items.specs.Accessible.{Visible}
use Rattle.f_scope.proofs.Scans.{some_one}
use Rattle.f_use.specs.Associated.{Found}
use Rattle.f_scopes.specs.References.{IsReference}
use Rattle.f_scopes.proofs.Referring.{refers}
use Rattle.f_scopes.proofs.reference.referred.Goals as goal

pub returns : goal.returns
returns c l at =
    let p = c.args.program.now.items in
    let h = c.requires.at in
    let one = some_one (slice_get p c.args.place) l h.0 at h.1 in
    let item = ap (λ x. x.item) one ∙ h.2 in
    let F : List ℕ → Type 0 = λ n. Found (Visible p l.scopes n) c.visible.result in
    let found = subst F c.as_slice.ensures (c.visible.ensures c.args.place l at (ap (λ x. (scope_of x).number) one ∙ h.3)) in
    let R : Option ℕ → Type 0 = λ r. IsReference p c.args.place l r in
    subst R (sym c.first_of.ensures) (refers p c.requires.kept c.args.place l at c.args.name.now c.args.need item c.visible.result found)
