use Rattle.std.proofs.Common.{◌≡◌, ℕ, List, Option, sym, ap, ◌∙◌, subst}
use Rattle.f_items.specs.Accessible.{Visible}
use Rattle.f_scope.specs.Program.{Outline}
use Rattle.f_use.specs.Associated.{Found}
use Rattle.f_rules.specs.PartTypes.{ClassAt, TypeWhere, where_holds, is_data_class, only}
use Rattle.f_rules.proofs.Types.{only_data}
use Rattle.f_rules.proofs.Levels.{object_told}
use Rattle.f_rules.proofs.parts.object_type.Goals as goal

pub returns : goal.returns
returns c k l n at number is name =
    let p = c.args.program.now.items in
    let q = c.visible.result in
    let cls = c.class_where-class.result in
    let A : Outline → Type 0 = λ o. ClassAt o.items c.only-found.result cls in
    let B : Option ℕ → Type 0 = λ v. ClassAt p v cls in
    let held = subst B c.only-found.ensures (subst A (c.program.ensures ∙ c.stated.ensures) c.class_where-class.ensures) in
    let F : List ℕ → Type 0 = λ m. Found (Visible p l.scopes m) q in
    let found = subst F (sym name) (c.visible.ensures k l at number) in
    let of = only_data p (Visible p l.scopes n.bytes) q found cls held in
    let same : c.where_holds.result ≡ where_holds (only q) (is_data_class cls) = c.where_holds.ensures ∙ ap (λ b. where_holds c.only-found.result b) c.is_data_class.ensures ∙ ap (λ w. where_holds w (is_data_class cls)) c.only-found.ensures in
    let W : Option ℕ → Type 0 = λ w. TypeWhere p w c.type_where.result in
    object_told p k l at n is (where_holds (only q) (is_data_class cls)) of c.type_where.result (subst W same c.type_where.ensures)
