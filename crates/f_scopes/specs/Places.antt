-- Where items stand in a text.
use Rattle.std.specs.Prelude.{ℕ, List, slice_index_or}
use Rattle.jf_base.specs.declared.place.Place.{Place}
use Rattle.f_items.specs.declared.item.Item.{Item}
use Rattle.f_items.specs.Rules.{place_of}
use Rattle.f_scope.specs.BuiltIn.{no_place}

-- the place of an item, where it has one
abbrev pub item_place : Item → Place
item_place i = place_of i no_place

abbrev pub place_at : List Place → ℕ → Place
place_at places k = slice_index_or places k no_place
