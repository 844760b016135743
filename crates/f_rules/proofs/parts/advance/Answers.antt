use Rattle.std.proofs.Common.{◌≡◌, ℕ, suc, slice_get, sym, ap, ◌∙◌, subst}
use Rattle.f_items.specs.declared.item.Item.{Item}
use Rattle.f_items.specs.Places.{scope_of, At}
use Rattle.f_scope.specs.Program.{Outline}
use Rattle.f_scope.proofs.Scans.{some_one}
use Rattle.f_rules.specs.declared.declared_types.PartType.{PartType}
use Rattle.f_rules.specs.PartTypes.{ItemTold, PartLevels, passed, AreLevels}
use Rattle.f_rules.proofs.Levels.{passes, item_told}
use Rattle.f_rules.proofs.parts.advance.Goals as goal

pub returns-in_ok-pass-in-Some : goal.returns-in_ok-pass-in-Some
returns-in_ok-pass-in-Some c l at =
    let p = c.args.program.now.items in
    let k = c.args.place in
    let here = c.in-Some.ensures in
    let A : Outline → Type 0 = λ o. At o.items k here.located in
    let one = some_one (slice_get p k) l here.located at (subst A (c.program.ensures ∙ c.stated.ensures) here.at) in
    let item = ap (λ x. x.item) one ∙ here.item_is in
    let number = ap (λ x. (scope_of x).number) one ∙ here.scope_is in
    let told = c.item_type-told.result in
    let I : Item → Type 0 = λ i. ItemTold p c.in-Some.stand.scope c.args.levels.now.current i told in
    let B : PartType → Type 0 = λ b. ItemTold p c.in-Some.stand.scope b c.in-Some.stand.item.now told in
    let is_told = subst I (sym item) (subst B c.current.ensures c.item_type-told.ensures) in
    let type = item_told p k l at c.in-Some.stand.scope c.args.levels.now.current c.requires.current_told number told is_told in
    let L : PartLevels → Type 0 = λ s. AreLevels p (suc k) s in
    subst L (sym (c.in_ok-pass-in-Some.ensures ∙ ap (λ i. passed i told c.args.levels.now) (sym item))) (passes p k l at c.args.levels.now told c.requires type)
