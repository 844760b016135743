use Rattle.std.proofs.Common.{◌≡◌, ℕ, List, length, subst}
use Rattle.f_items.specs.Places.{Located}
use Rattle.f_scope.specs.Program.{Outline, AreParts}
use Rattle.f_use.specs.Places.{AreUsePlaces}
use Rattle.f_use.proofs.associated.lists_of.Goals as goal

pub returns : goal.returns
returns c =
    let parts = c.parts-parts.result in
    let P : Outline → Type 0 = λ v. AreParts v parts.scopes.now parts.items.now parts.own.now in
    let are = subst P c.program.ensures c.parts-parts.ensures in
    let Q : List Located → Type 0 = λ p. AreUsePlaces p c.in_ok-lists.lists.items (length parts.scopes.now) in
    let R : ℕ → Type 0 = λ n. AreUsePlaces c.args.stated.now.items c.in_ok-lists.lists.items n in
    subst R are.scopes_are (subst Q are.items_are c.in_ok-lists.ensures)
