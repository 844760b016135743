use Rattle.std.proofs.Common.{◌≡◌, ◌+◌, length}
use Rattle.f_use.specs.Places.{put_items}
use Rattle.f_use.proofs.places.put_all.Given as goal

abbrev pub invariant-items : goal.invariant-items
invariant-items l = record {
  so_far : put_items l.lists.items l.place l.rest ≡ put_items l.initial.lists.items 0 l.items;
  counted : l.place + length l.rest ≡ length l.items;
}

abbrev pub decreases-items : goal.decreases-items
decreases-items l = length l.rest
