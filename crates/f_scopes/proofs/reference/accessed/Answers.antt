use Rattle.std.proofs.Common.{ℕ, List, Option, slice_get, sym, ap, ◌∙◌, subst}
use Rattle.f_items.specs.Places.{scope_of}
use Rattle.f_items.specs.Accessible.{Denotes}
use Rattle.f_scope.proofs.Scans.{some_one}
use Rattle.f_use.specs.Associated.{Found}
use Rattle.f_scopes.specs.References.{IsReference}
use Rattle.f_scopes.proofs.Referring.{accesses}
use Rattle.f_scopes.proofs.reference.accessed.Goals as goal

pub returns : goal.returns
returns c l at =
    let p = c.args.program.now.items in
    let h = c.requires.at in
    let one = some_one (slice_get p c.args.place) l h.1.0 at h.1.1 in
    let item = ap (λ x. x.item) one ∙ h.1.2 in
    let scope = ap (λ x. (scope_of x).number) one ∙ h.1.3 in
    let F : List ℕ → Type 0 = λ n. Found (Denotes p c.args.scope n) c.denoted.result in
    let G : ℕ → Type 0 = λ s. Found (Denotes p s c.args.name.now.bytes) c.denoted.result in
    let found = subst G (sym scope) (subst F c.as_slice.ensures c.denoted.ensures) in
    let R : Option ℕ → Type 0 = λ r. IsReference p c.args.place l r in
    subst R (sym c.first_of.ensures) (accesses p c.requires.kept c.args.place l at c.args.name.now h.0 item c.denoted.result found)
