use Rattle.std.proofs.Common.{◌≡◌, ◌<◌, ℕ, List, Bool, is_some, sym, ap, ◌∙◌, subst}
use Rattle.std.specs.Prelude.{Decides}
use Rattle.f_scope.specs.Program.{Outline}
use Rattle.f_scope.specs.Tables.{entry_at, table_at}
use Rattle.f_stated.specs.Said.{first_of}
use Rattle.f_stated.specs.Stated.{NamesImport}
use Rattle.f_stated.proofs.Sayings.{imports_decided}
use Rattle.f_stated.proofs.stated.Stated.imports_name.Goals as goal

pub returns : goal.returns
returns c =
    let o = c.self.inside.program in
    let scope = c.args.scope in
    let name = c.args.name.now in
    let e = entry_at name (table_at c.self.inside.imports.items scope) in
    let P : Outline → Type 0 = λ v. scope < v.scopes in
    let lt : scope < o.scopes = subst P (sym c.self.view_is) c.requires in
    let decided : Decides (is_some (first_of e)) (NamesImport o.items scope name) = imports_decided o.items scope name e (c.self.invariant.imports_are scope lt name) in
    let is : is_some (first_of e) ≡ c.is_some.result = sym (c.is_some.ensures ∙ ap is_some (c.first_in.ensures ∙ ap (λ t. first_of (entry_at name (table_at t scope))) c.as_slice.ensures.value)) in
    let Q : Outline → Type 0 = λ v. Decides c.is_some.result (NamesImport v.items scope name) in
    let R : Bool → Type 0 = λ b. Decides b (NamesImport o.items scope name) in
    subst Q c.self.view_is (subst R is decided)
