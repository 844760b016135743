use Rattle.std.proofs.Common.{◌≡◌, List, [], map, Err, sym, ap, ◌∙◌, subst}
use Rattle.jf_base.specs.declared.place.Refusal.{Refusal}
use Rattle.jf_base.specs.declared.place.Refusal.TheVariants.{At as RefusedAt}
use Rattle.f_items.specs.declared.item.Item.{Item}
use Rattle.f_items.specs.Places.{located}
use Rattle.f_items.specs.Scoped.{BreaksFirst}
use Rattle.f_names.specs.declared.check.Checked.{Checked}
use Rattle.f_names.specs.Checked.{IsChecked}
use Rattle.f_rules.specs.RuleOf.{number_of}
use Rattle.f_scopes.specs.Answer.{tag_of, IsAnswer}
use Rattle.f_scopes.specs.Places.{item_place, place_at}
use Rattle.f_scopes.proofs.Refusing.{broken_at}
use Rattle.f_scopes.proofs.check.scopes.Goals as goal

pub returns-in-Broken : goal.returns-in-Broken
returns-in-Broken c =
    let items = c.in_ok-items.items.items in
    let k = c.in-Broken.broken.place in
    let rule = c.in-Broken.broken.rule in
    let C : Checked → Type 0 = λ x. IsChecked (located 1 [] items) x in
    let first : BreaksFirst (located 1 [] items) k (number_of rule) = subst C c.in-Broken.is c.in_ok-broken.ensures in
    let places : c.as_slice-in-Broken.result.now ≡ map item_place items = c.as_slice-in-Broken.ensures.value ∙ c.in_ok-places.ensures ∙ ap (map item_place) c.as_slice.ensures.value in
    let same : c.refused.result ≡ RefusedAt (place_at (map item_place items) k) (tag_of (number_of rule)) = c.refused.ensures ∙ ap (λ ps. RefusedAt (place_at ps k) (tag_of (number_of rule))) places in
    let R : Refusal → Type 0 = λ e. IsAnswer (located 1 [] items) (Err e) in
    let I : List Item → Type 0 = λ is. IsAnswer (located 1 [] is) (Err c.refused.result) in
    subst I c.in_ok-items.ensures (subst R (sym same) (broken_at items k rule first))
