-- What breaks a rule has a place.
use Rattle.std.proofs.Common.{◌≡◌, ◌⊎◌, inl, inr, ℕ, List, [], map, slice_get, option_map, Some, None, refl, sym, ap, ◌∙◌, subst, lit≤}
use Rattle.std.proofs.lemmas.Option.{slice_get-map, get_or_from_slice_get}
use Rattle.jf_base.specs.Tags.{IsTag}
use Rattle.jf_base.specs.declared.place.Place.{Place}
use Rattle.f_items.specs.declared.item.Item.{Item}
use Rattle.f_items.specs.declared.item.Item.TheVariants.{Enter, Declares, Heads, Uses, Takes, Imports, Accesses, Refers, Selects, Untyped}
use Rattle.f_items.specs.Places.{Located, located, At}
use Rattle.f_items.specs.Order.{module_used}
use Rattle.f_items.specs.Rules.{place_of}
use Rattle.f_items.specs.Scoped.{BreaksFirst, UnitTwice, OnCycle, InUnit}
use Rattle.f_rules.specs.declared.rule.NameRule.{NameRule}
use Rattle.f_rules.specs.declared.rule.NameRule.TheVariants.{DeclaredOnce, Declared, Public, Present, Acyclic, Single, Typed, Fitting}
use Rattle.f_rules.specs.RuleOf.{number_of}
use Rattle.f_rules.proofs.Breaking.{sort, Silent, silent}
use Rattle.f_scope.specs.BuiltIn.{no_place}
use Rattle.f_scopes.specs.Answer.{tag_of, IsBrokenAt}
use Rattle.f_scopes.specs.Numbers.{item_of}
use Rattle.f_scopes.specs.Places.{item_place, place_at}
use Rattle.f_scopes.proofs.Counting.{items_are}

-- ---- places

abbrev pub IsPlaced : Item → Type 0
IsPlaced i = (a b : Place) → place_of i a ≡ place_of i b

placed_or_silent : (i : Item) → IsPlaced i ⊎ ((sort i ≡ Silent) × (module_used i ≡ None) × ((d : _) → i ≡ Declares d → ⊥))
placed_or_silent (Enter k p) = inl (λ a b. refl)
placed_or_silent (Declares d) = inl (λ a b. refl)
placed_or_silent (Heads d) = inl (λ a b. refl)
placed_or_silent (Uses p m i o) = inl (λ a b. refl)
placed_or_silent (Takes m l u r) = inl (λ a b. refl)
placed_or_silent (Imports n) = inl (λ a b. refl)
placed_or_silent (Accesses n a) = inl (λ x b. refl)
placed_or_silent (Refers n need) = inl (λ a b. refl)
placed_or_silent (Selects n) = inl (λ a b. refl)
placed_or_silent (Untyped p) = inl (λ a b. refl)
placed_or_silent _ = inr (refl, refl, λ d e. absurd (cc))

-- the item that breaks a rule first
breaker : (p : List Located) (k rule : ℕ) → BreaksFirst p k rule → (l : Located) × At p k l × IsPlaced l.item
breaker p k _ (UnitTwice _ f) =
    let second = f.here.second in
    (second.item, second.at, (let P : Item → Type 0 = IsPlaced in subst P (sym second.item_is) (λ a b. refl)))
breaker p k _ (OnCycle _ none f) = (f.here.uses.located, f.here.uses.at, pick (placed_or_silent f.here.uses.located.item)) where
  pick : IsPlaced f.here.uses.located.item ⊎ ((sort f.here.uses.located.item ≡ Silent) × (module_used f.here.uses.located.item ≡ None) × ((d : _) → f.here.uses.located.item ≡ Declares d → ⊥)) → IsPlaced f.here.uses.located.item
  pick (inl a) = a
  pick (inr b) = let bad : None ≡ Some f.here.uses.name = sym b.1 ∙ f.here.uses.uses in absurd (cc)
breaker p k rule (InUnit _ _ before u behind names cycles order kept first least) = (least.item, least.at, pick (placed_or_silent least.item.item)) where
  pick : IsPlaced least.item.item ⊎ ((sort least.item.item ≡ Silent) × (module_used least.item.item ≡ None) × ((d : _) → least.item.item ≡ Declares d → ⊥)) → IsPlaced least.item.item
  pick (inl a) = a
  pick (inr b) = absurd (silent p k least.item b.0 rule least.breaks)

-- ---- tags

pub rule_tag : (r : NameRule) → IsTag (tag_of (number_of r)).0
rule_tag DeclaredOnce = record { first_group = lit≤ tt; last_group = lit≤ tt; first_rule = lit≤ tt; last_rule = lit≤ tt }
rule_tag Declared = record { first_group = lit≤ tt; last_group = lit≤ tt; first_rule = lit≤ tt; last_rule = lit≤ tt }
rule_tag Public = record { first_group = lit≤ tt; last_group = lit≤ tt; first_rule = lit≤ tt; last_rule = lit≤ tt }
rule_tag Present = record { first_group = lit≤ tt; last_group = lit≤ tt; first_rule = lit≤ tt; last_rule = lit≤ tt }
rule_tag Acyclic = record { first_group = lit≤ tt; last_group = lit≤ tt; first_rule = lit≤ tt; last_rule = lit≤ tt }
rule_tag Single = record { first_group = lit≤ tt; last_group = lit≤ tt; first_rule = lit≤ tt; last_rule = lit≤ tt }
rule_tag Typed = record { first_group = lit≤ tt; last_group = lit≤ tt; first_rule = lit≤ tt; last_rule = lit≤ tt }
rule_tag Fitting = record { first_group = lit≤ tt; last_group = lit≤ tt; first_rule = lit≤ tt; last_rule = lit≤ tt }

-- ---- the refusal

place_there : (is : List Item) (k : ℕ) (l : Located) → At (located 1 [] is) k l → place_at (map item_place is) k ≡ item_place l.item
place_there is k l at =
    let items : slice_get (map item_of (located 1 [] is)) k ≡ Some l.item = slice_get-map item_of (located 1 [] is) k ∙ ap (option_map item_of) at in
    let item : slice_get is k ≡ Some l.item = ap (λ js. slice_get js k) (sym (items_are 1 [] is)) ∙ items in
    let there : slice_get (map item_place is) k ≡ Some (item_place l.item) = slice_get-map item_place is k ∙ ap (option_map item_place) item in
    get_or_from_slice_get (map item_place is) k (item_place l.item) no_place there

pub broken_at : (is : List Item) (k : ℕ) (r : NameRule) → BreaksFirst (located 1 [] is) k (number_of r) → IsBrokenAt (located 1 [] is) (place_at (map item_place is) k) (tag_of (number_of r))
broken_at is k r breaks =
    let item = breaker (located 1 [] is) k (number_of r) breaks in
    record {
      number = k;
      rule = number_of r;
      item = item.0;
      breaks = breaks;
      at = item.1;
      place_is = λ other. item.2 other no_place ∙ sym (place_there is k item.0 item.1);
      tag_is = refl;
      is_tag = rule_tag r;
    }
