use Rattle.std.proofs.Common.{◌≡◌, ◌<◌, ℕ, List, [], Bool, is_some, sym, ap, ◌∙◌, subst}
use Rattle.std.specs.Prelude.{Decides}
use Rattle.f_items.specs.declared.item.Item.TheVariants.{ImportsAll}
use Rattle.f_items.specs.Places.{Located}
use Rattle.f_items.specs.Accessible.{Stands}
use Rattle.f_scope.specs.Program.{Outline}
use Rattle.f_scope.specs.Tables.{entry_at, table_at}
use Rattle.f_stated.specs.Said.{first_of}
use Rattle.f_stated.proofs.Sayings.{imports_all_decided}
use Rattle.f_stated.proofs.stated.Stated.imports_all.Goals as goal

pub returns : goal.returns
returns c =
    let o = c.self.inside.program in
    let scope = c.args.scope in
    let e = entry_at [] (table_at c.self.inside.whole_imports.items scope) in
    let P : Outline → Type 0 = λ v. scope < v.scopes in
    let lt : scope < o.scopes = subst P (sym c.self.view_is) c.requires in
    let decided : Decides (is_some (first_of e)) (Stands o.items scope ImportsAll) = imports_all_decided o.items scope e (c.self.invariant.whole_imports_are scope lt []) in
    let is : is_some (first_of e) ≡ c.is_some.result = sym (c.is_some.ensures ∙ ap is_some (c.first_in.ensures ∙ ap (λ t. first_of (entry_at [] (table_at t scope))) c.as_slice.ensures.value)) in
    let Q : Outline → Type 0 = λ v. Decides c.is_some.result (Stands v.items scope ImportsAll) in
    let R : Bool → Type 0 = λ b. Decides b (Stands o.items scope ImportsAll) in
    subst Q c.self.view_is (subst R is decided)
