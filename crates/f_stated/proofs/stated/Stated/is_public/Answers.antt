use Rattle.std.proofs.Common.{◌≡◌, ◌<◌, ℕ, List, [], Bool, map, sym, ap, ◌∙◌, subst}
use Rattle.f_items.specs.Places.{Located}
use Rattle.f_items.specs.Accessible.{is_public}
use Rattle.f_scope.specs.Rows.{seen}
use Rattle.f_scope.specs.Program.{Outline}
use Rattle.f_scope.specs.Tables.{entry_at, table_at}
use Rattle.f_stated.specs.declared.said.Saying.TheVariants as saying
use Rattle.f_stated.specs.Said.{IsSaid, first_of, access_at, default_at}
use Rattle.f_stated.specs.Stated.{public_by}
use Rattle.f_stated.proofs.Sayings.{public_is}
use Rattle.f_stated.proofs.stated.Stated.is_public.Goals as goal

pub returns : goal.returns
returns c =
    let o = c.self.inside.program in
    let m = c.args.scope in
    let name = c.args.name.now in
    let rows = c.parts-parts.result.scopes.now in
    let xs = c.parts-parts.result.items.now in
    let a = entry_at name (table_at c.self.inside.access.items m) in
    let d = entry_at [] (table_at c.self.inside.defaults.items m) in
    let P : Outline → Type 0 = λ v. m < v.scopes in
    let lt : m < o.scopes = subst P (sym c.self.view_is) c.requires in
    let items : map (seen rows) xs ≡ o.items = c.parts-parts.ensures.items_are in
    let A : List Located → Type 0 = λ p. IsSaid saying.Access p m name a in
    let D : List Located → Type 0 = λ p. IsSaid saying.DefaultAccess p m [] d in
    let found = public_is rows xs m name a d (subst A (sym items) (c.self.invariant.access_are m lt name)) (subst D (sym items) (c.self.invariant.defaults_are m lt [])) in
    let said : c.access_at-said.result ≡ access_at xs (first_of a) = c.access_at-said.ensures ∙ ap (access_at xs) (c.first_in.ensures ∙ ap (λ t. first_of (entry_at name (table_at t m))) c.as_slice.ensures.value) in
    let other : c.default_at-other.result ≡ default_at xs (first_of d) = c.default_at-other.ensures ∙ ap (default_at xs) (c.first_in-2.ensures ∙ ap (λ t. first_of (entry_at [] (table_at t m))) c.as_slice-2.ensures.value) in
    c.public_by.ensures
    ∙ ap (λ x. public_by x c.default_at-other.result) said
    ∙ ap (public_by (access_at xs (first_of a))) other
    ∙ found
    ∙ ap (λ p. is_public p m name) items
    ∙ ap (λ v. is_public v.items m name) c.self.view_is
