use Rattle.std.proofs.Common.{◌≡◌, ℕ, List, ◌∷◌, ◌∙◌, sym, subst}
use Rattle.std.proofs.lemmas.List.{nil_from_length}
use Rattle.f_use.proofs.Scopes.{Going, going_first, going_next, going_known, going_within, going_last}
use Rattle.f_use.proofs.associated.used_tables.Goals as goal

pub order-init : goal.order-init
order-init c = record { count = c.in_ok-used.ensures; going = going_first c.args.stated.now c.args.order.now c.in_ok-used.used.items c.requires.order }

pub fill-requires-clause-scope : goal.fill-requires-clause-scope
fill-requires-clause-scope c =
    let P : List ℕ → Type 0 = λ r. Going c.args.stated.now c.args.order.now c.order.used.items r in
    going_within c.args.stated.now c.args.order.now c.order.used.items c.in-Some.scope.now c.in-Some.behind.now (subst P c.in-Some.ensures.cases.0 c.order.invariant.going)

pub fill-requires-clause-known : goal.fill-requires-clause-known
fill-requires-clause-known c =
    let P : List ℕ → Type 0 = λ r. Going c.args.stated.now c.args.order.now c.order.used.items r in
    going_known c.args.stated.now c.args.order.now c.order.used.items c.in-Some.scope.now c.in-Some.behind.now (subst P c.in-Some.ensures.cases.0 c.order.invariant.going)

pub order-preserved : goal.order-preserved
order-preserved c =
    let P : List ℕ → Type 0 = λ r. Going c.args.stated.now c.args.order.now c.order.used.items r in
    record {
      count = c.in_ok-fill.ensures.length_is ∙ c.order.invariant.count;
      going = going_next c.args.stated.now c.args.order.now c.order.used.items c.fill.new.used.items c.in-Some.scope.now c.in-Some.behind.now (subst P c.in-Some.ensures.cases.0 c.order.invariant.going) c.in_ok-fill.ensures;
    }

pub returns : goal.returns
returns c = going_last c.args.stated.now c.args.order.now c.order.used.items c.order.rest.now c.requires.order (nil_from_length c.order.rest.now c.in_default.ensures.cases) c.order.invariant.going
