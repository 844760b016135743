use Rattle.std.proofs.Common.{◌≡◌, ◌<◌, ℕ, List, Bool, is_some, sym, ap, ◌∙◌, subst}
use Rattle.std.specs.Prelude.{Decides}
use Rattle.f_items.specs.Accessible.{IsRenamed}
use Rattle.f_scope.specs.Program.{Outline}
use Rattle.f_scope.specs.Tables.{entry_at, table_at}
use Rattle.f_stated.specs.Said.{renaming_key, first_of}
use Rattle.f_stated.proofs.Sayings.{renaming_decided}
use Rattle.f_stated.proofs.stated.Stated.is_renamed.Goals as goal

pub returns : goal.returns
returns c =
    let o = c.self.inside.program in
    let scope = c.args.scope in
    let m = c.args.module_name.now in
    let u = c.args.used.now in
    let e = entry_at (renaming_key m u) (table_at c.self.inside.renamings.items scope) in
    let P : Outline → Type 0 = λ v. scope < v.scopes in
    let lt : scope < o.scopes = subst P (sym c.self.view_is) c.requires in
    let decided : Decides (is_some (first_of e)) (IsRenamed o.items scope m u) = renaming_decided o.items scope m u e (c.self.invariant.renamings_are scope lt (renaming_key m u)) in
    let key : c.as_slice-2.result.now ≡ renaming_key m u = c.as_slice-2.ensures.value ∙ c.in_ok-key.ensures in
    let is : is_some (first_of e) ≡ c.is_some.result = sym (c.is_some.ensures ∙ ap is_some (c.first_in.ensures ∙ ap (λ t. first_of (entry_at c.as_slice-2.result.now (table_at t scope))) c.as_slice.ensures.value ∙ ap (λ k. first_of (entry_at k (table_at c.self.inside.renamings.items scope))) key)) in
    let Q : Outline → Type 0 = λ v. Decides c.is_some.result (IsRenamed v.items scope m u) in
    let R : Bool → Type 0 = λ b. Decides b (IsRenamed o.items scope m u) in
    subst Q c.self.view_is (subst R is decided)
