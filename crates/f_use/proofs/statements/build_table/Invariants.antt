use Rattle.std.proofs.Common.{◌≡◌, ℕ, List, [], length}
use Rattle.f_scope.specs.Tables.{Row}
use Rattle.f_use.specs.Origins.{Grew}
use Rattle.f_use.specs.Uses.{PlacesGive, ArePlacesKnown}
use Rattle.f_use.proofs.statements.build_table.Given as goal

abbrev pub invariant-places : goal.invariant-places
invariant-places l = record {
  known : ArePlacesKnown l.stated.items l.tables l.rest;
  grows : (new : List Row) → Grew l.table new (PlacesGive l.stated.items l.scope l.rest) (PlacesGive l.stated.items l.scope l.rest) → Grew [] new (PlacesGive l.stated.items l.scope l.places) (PlacesGive l.stated.items l.scope l.places);
}

abbrev pub decreases-places : goal.decreases-places
decreases-places l = length l.rest
