use Rattle.std.proofs.Common.{◌≡◌, ℕ, Option, sym, ap, ◌∙◌, subst}
use Rattle.f_items.specs.Accessible.{Visible}
use Rattle.f_scope.specs.Program.{Outline}
use Rattle.f_rules.specs.declared.declared_types.PartType.{PartType}
use Rattle.f_rules.specs.PartTypes.{TypeTold, NamesType, ClassAt, type_by, where_holds, is_type_class, only}
use Rattle.f_rules.proofs.Types.{only_type, named}
use Rattle.f_rules.proofs.declared_types.named_type.Goals as goal

pub returns : goal.returns
returns c k l at is =
    let p = c.args.program.now.items in
    let name = c.args.name.now in
    let q = c.visible.result in
    let cls = c.class_where-class.result in
    let A : Outline → Type 0 = λ o. ClassAt o.items c.only-found.result cls in
    let B : Option ℕ → Type 0 = λ v. ClassAt p v cls in
    let held = subst B c.only-found.ensures (subst A (c.program.ensures ∙ c.stated.ensures) c.class_where-class.ensures) in
    let of = only_type p (Visible p l.scopes name) q (c.visible.ensures k l at is) cls held in
    let same : c.type_by.result ≡ type_by (where_holds (only q) (is_type_class cls)) = c.type_by.ensures ∙ ap type_by (c.where_holds.ensures ∙ ap (λ b. where_holds c.only-found.result b) c.is_type_class.ensures ∙ ap (λ w. where_holds w (is_type_class cls)) c.only-found.ensures) in
    let T : PartType → Type 0 = λ t. TypeTold (NamesType p l.scopes name) t in
    subst T (sym same) (named p l.scopes name (where_holds (only q) (is_type_class cls)) of)
