use Rattle.std.proofs.Common.{◌≡◌, ℕ, List, [], ◌∷◌, sym, subst}
use Rattle.std.proofs.lemmas.List.{nil_from_length}
use Rattle.f_scope.specs.Tables.{Row}
use Rattle.f_use.specs.Origins.{Grew}
use Rattle.f_use.specs.Uses.{PlacesGive, ArePlacesKnown}
use Rattle.f_use.proofs.Scopes.{known_next, places_next, places_none}
use Rattle.f_use.proofs.statements.build_table.Goals as goal

pub places-init : goal.places-init
places-init c = record {
  known = c.requires.known;
  grows = λ new g. let P : List Row → Type 0 = λ t. Grew t new (PlacesGive c.args.stated.now.items c.args.scope c.args.places.now) (PlacesGive c.args.stated.now.items c.args.scope c.args.places.now) in subst P c.new-table.ensures g;
}

pub add_place-requires-clause-known : goal.add_place-requires-clause-known
add_place-requires-clause-known c =
    let P : List ℕ → Type 0 = λ r. ArePlacesKnown c.args.stated.now.items c.args.tables.now r in
    (known_next c.args.stated.now.items c.args.tables.now c.in-Some.place.now c.in-Some.behind.now (subst P c.in-Some.ensures.cases.0 c.places.invariant.known)).0

pub places-preserved : goal.places-preserved
places-preserved c =
    let p = c.args.stated.now.items in
    let P : List ℕ → Type 0 = λ r. ArePlacesKnown p c.args.tables.now r in
    record {
      known = (known_next p c.args.tables.now c.in-Some.place.now c.in-Some.behind.now (subst P c.in-Some.ensures.cases.0 c.places.invariant.known)).1;
      grows = λ new g.
          let Q : List ℕ → Type 0 = λ r. Grew c.places.table new (PlacesGive p c.args.scope r) (PlacesGive p c.args.scope r) in
          c.places.invariant.grows new (subst Q (sym c.in-Some.ensures.cases.0) (places_next p c.args.scope c.in-Some.place.now c.in-Some.behind.now c.places.table c.add_place.new.table new c.in_ok-add_place.ensures g));
    }

pub returns : goal.returns
returns c =
    let p = c.args.stated.now.items in
    let Q : List ℕ → Type 0 = λ r. Grew c.places.table c.places.table (PlacesGive p c.args.scope r) (PlacesGive p c.args.scope r) in
    c.places.invariant.grows c.places.table (subst Q (sym (nil_from_length c.places.rest.now c.in_default.ensures.cases)) (places_none p c.args.scope c.places.table))
