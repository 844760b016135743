use Rattle.std.proofs.Common.{◌≡◌, ◌+◌, ℕ, suc, List, length, sym, ap, ◌∙◌, subst, arith}
use Rattle.f_use.specs.Places.{list_at}
use Rattle.f_order.specs.Ready.{with_user}
use Rattle.f_order.proofs.Waits.{UsersBelow, users_next, users_all, length_with_user}
use Rattle.f_order.proofs.ready.users_of.Goals as goal

pub units-preserved : goal.units-preserved
units-preserved c =
    let edges = c.args.edges.now in
    let n = c.units.unit in
    let test = c.units-test.true in
    let is = c.in_ok-put_user.ensures ∙ ap (λ l. with_user c.units.users.items n l) c.places_in.ensures in
    let next : suc n ≡ n + 1 = omega arith in
    let P : List (List ℕ) → Type 0 = λ l. UsersBelow c.args.count edges l (suc n) in
    let Q : ℕ → Type 0 = λ j. UsersBelow c.args.count edges c.put_user.new.users.items j in
    record {
      within = omega (arith, test);
      long = ap length is ∙ length_with_user c.units.users.items n (list_at edges n) ∙ c.units.invariant.long;
      below = subst Q next (subst P (sym is) (users_next c.args.count edges c.units.users.items n c.units.invariant.long c.units.invariant.below));
    }

pub returns : goal.returns
returns c =
    let test = c.units-test.false in
    users_all c.args.count c.args.edges.now c.units.users.items c.units.unit (omega (arith, test)) c.units.invariant.below
