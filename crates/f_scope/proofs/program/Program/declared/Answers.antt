use Rattle.std.proofs.Common.{◌≡◌, ◌<◌, List, Option, ℕ, map, length, sym, ap, ◌∙◌, subst, arith}
use Rattle.f_items.specs.Places.{Located}
use Rattle.f_scope.specs.Rows.{seen}
use Rattle.f_scope.specs.Tables.{entry_at, table_at}
use Rattle.f_scope.specs.Own.{IsTold}
use Rattle.f_scope.specs.Program.{told_of}
use Rattle.f_scope.proofs.Modules.{told_is}
use Rattle.f_scope.proofs.program.Program.declared.Goals as goal

pub returns : goal.returns
returns c =
    let rows = c.self.inside.scopes.items in
    let p = map (seen rows) c.self.inside.items.items in
    let scope = c.args.scope in
    let name = c.args.name.now in
    let o = entry_at name (table_at c.self.inside.own.items scope) in
    let items_are : p ≡ c.args.self.now.items = ap (λ v. v.items) c.self.view_is in
    let scopes_are : length rows ≡ c.args.self.now.scopes = ap (λ v. v.scopes) c.self.view_is in
    let room = c.requires in
    let lt : scope < length rows = omega (arith, room, scopes_are) in
    let told : IsTold p scope name (told_of o) = told_is p scope name o (c.self.invariant.own_are scope lt name) in
    let is : told_of o ≡ c.told_of.result = sym (c.told_of.ensures ∙ ap told_of (c.entry_in.ensures ∙ ap (λ t. entry_at name (table_at t scope)) c.as_slice.ensures.value)) in
    let P : List Located → Type 0 = λ q. IsTold q scope name c.told_of.result in
    let Q : Option ℕ → Type 0 = λ r. IsTold p scope name r in
    subst P items_are (subst Q is told)
