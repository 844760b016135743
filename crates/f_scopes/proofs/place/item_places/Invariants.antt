use Rattle.std.proofs.Common.{◌≡◌, map, take}
use Rattle.f_scopes.specs.Places.{item_place}
use Rattle.f_scopes.proofs.place.item_places.Given as goal

abbrev pub invariant-loop-item : goal.invariant-loop-item
invariant-loop-item l = l.places.items ≡ map item_place (take l.item-index l.items)
