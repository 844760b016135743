use Rattle.std.proofs.Common.{◌≡◌, ◌<◌, ℕ, List, Option, refl, sym, ap, ◌∙◌, subst}
use Rattle.f_items.specs.Accessible.{IsUsed}
use Rattle.f_scope.specs.Program.{Outline}
use Rattle.f_scope.specs.Tables.{entry_at, table_at}
use Rattle.f_use.specs.Origins.{origins_of}
use Rattle.f_use.specs.declared.origins.Origins.{Origins}
use Rattle.f_use.specs.Associated.{Found}
use Rattle.f_use.proofs.Scopes.{origins_found}
use Rattle.f_use.proofs.associated.Associated.used.Goals as goal

pub returns : goal.returns
returns c =
    let o = c.self.inside.stated in
    let s = c.args.scope in
    let name = c.args.name.now in
    let rows = table_at c.self.inside.used.items s in
    let P : Outline → Type 0 = λ v. s < v.scopes in
    let lt : s < o.scopes = subst P (sym c.self.view_is) c.requires in
    let found : Found (IsUsed o.items s name) (origins_of (entry_at name rows)) = origins_found o.items s rows (c.self.invariant.exact s lt) name (entry_at name rows) refl in
    let is : origins_of (entry_at name rows) ≡ c.origins_of.result = sym (c.origins_of.ensures ∙ ap origins_of (c.entry_in.ensures ∙ ap (λ t. entry_at name (table_at t s)) c.as_slice.ensures.value)) in
    let Q : Outline → Type 0 = λ v. Found (IsUsed v.items s name) c.origins_of.result in
    let R : Option Origins → Type 0 = λ r. Found (IsUsed o.items s name) r in
    subst Q c.self.view_is (subst R is found)
