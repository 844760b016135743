use Rattle.std.proofs.Common.{◌≡◌, sym, ap, ◌∙◌, subst, map, [], replicate, length, List, ℕ}
use Rattle.f_scope.specs.Rows.{seen}
use Rattle.f_use.specs.Places.{AreUsePlaces, put_items}
use Rattle.f_use.proofs.Listed.{are_listed}
use Rattle.f_use.proofs.places.use_places.Goals as goal

pub returns : goal.returns
returns c =
    let scopes = c.args.scopes.now in
    let items = c.args.items.now in
    let empty : c.in_ok-lists.lists.items ≡ replicate (length scopes) [] = c.in_ok-lists.ensures in
    let is : c.put_all.new.lists.items ≡ put_items (replicate (length scopes) []) 0 items = c.in_ok-put_all.ensures ∙ ap (λ t. put_items t 0 items) empty in
    let P : List (List ℕ) → Type 0 = λ t. AreUsePlaces (map (seen scopes) items) t (length scopes) in
    subst P (sym is) (are_listed scopes c.requires items)
