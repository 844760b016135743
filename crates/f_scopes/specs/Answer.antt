-- What is said of the names of a program: the first broken rule and its place, or that all rules are kept.
use Rattle.std.specs.Prelude.{◌≡◌, ℕ, ◌+◌, List, Result, Ok, Err}
use Rattle.jf_base.specs.Tags.{IsTag}
use Rattle.jf_base.specs.declared.place.Place.{Place}
use Rattle.jf_base.specs.declared.place.Refusal.{Refusal}
use Rattle.jf_base.specs.declared.place.Refusal.TheVariants.{Memory, At as RefusedAt}
use Rattle.jf_base.specs.declared.tag.Tag.{Tag}
use Rattle.f_items.specs.Places.{Located, At}
use Rattle.f_items.specs.Rules.{place_of}
use Rattle.f_items.specs.Scoped.{BreaksFirst, IsKept}

-- the tag of a rule on names: the third group of rules
abbrev pub tag_of : ℕ → Tag
tag_of rule = record { 0 = 300 + rule }

-- the first broken rule has this tag, and what breaks it stands at this place
pub record IsBrokenAt (p : List Located) (place : Place) (tag : Tag) : Type 0 where
  pub number : ℕ
  pub rule : ℕ
  pub item : Located
  pub breaks : BreaksFirst p number rule
  pub at : At p number item
  pub place_is : (other : Place) → place_of item.item other ≡ place
  pub tag_is : tag_of rule ≡ tag
  pub is_tag : IsTag tag.0

-- the answer for a program with these items
abbrev pub IsAnswer : List Located → Result (List Located) Refusal → Type 0
IsAnswer p (Ok s) = (s ≡ p) × IsKept p
IsAnswer p (Err Memory) = Unit {0}
IsAnswer p (Err (RefusedAt place tag)) = IsBrokenAt p place tag
