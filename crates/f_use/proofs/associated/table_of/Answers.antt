use Rattle.std.proofs.Common.{◌≡◌, ℕ, List, [], ◌<◌, sym, subst}
use Rattle.f_scope.specs.Tables.{Row}
use Rattle.f_use.specs.Origins.{Grew}
use Rattle.f_use.specs.Places.{Among, IsUsePlace, list_at}
use Rattle.f_use.specs.Uses.{PlacesGive}
use Rattle.f_use.proofs.Scopes.{exact_from, places_known}
use Rattle.f_use.proofs.associated.table_of.Goals as goal

pub build_table-requires-clause-known : goal.build_table-requires-clause-known
build_table-requires-clause-known c =
    let p = c.args.stated.now.items in
    let s = c.args.scope in
    let P : List ℕ → Type 0 = λ l. (k : ℕ) → (Among l k → IsUsePlace p s k) × (IsUsePlace p s k → Among l k) in
    places_known p s c.args.used.now c.places_in.result.now (subst P (sym c.places_in.ensures) (c.requires.lists s c.requires.scope)) c.requires.known

pub returns : goal.returns
returns c =
    let p = c.args.stated.now.items in
    let s = c.args.scope in
    let P : List ℕ → Type 0 = λ l. (k : ℕ) → (Among l k → IsUsePlace p s k) × (IsUsePlace p s k → Among l k) in
    exact_from p s c.places_in.result.now c.in_ok-table.table (subst P (sym c.places_in.ensures) (c.requires.lists s c.requires.scope)) c.in_ok-table.ensures
