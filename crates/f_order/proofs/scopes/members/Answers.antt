use Rattle.std.proofs.Common.{◌≡◌, ◌+◌, ℕ, suc, List, length, sym, ap, ◌∙◌, subst, arith}
use Rattle.f_use.specs.Places.{put_at}
use Rattle.f_order.specs.Units.{number_at}
use Rattle.f_order.proofs.Edges.{PairsBelow, length_put}
use Rattle.f_order.proofs.Behind.{IsMember, members_next, members_all}
use Rattle.f_order.proofs.scopes.members.Goals as goal

pub scopes-preserved : goal.scopes-preserved
scopes-preserved c =
    let units = c.args.units.now in
    let k = c.scopes.scope in
    let test = c.scopes-test.true in
    let is = c.in_ok-put_at.ensures ∙ ap (λ n. put_at c.scopes.lists.items n k) c.number_at.ensures in
    let next : suc k ≡ k + 1 = omega arith in
    let P : List (List ℕ) → Type 0 = λ l. PairsBelow (IsMember units c.args.count) l (suc k) in
    let Q : ℕ → Type 0 = λ j. PairsBelow (IsMember units c.args.count) c.put_at.new.lists.items j in
    record {
      within = omega (arith, test);
      long = ap length is ∙ length_put c.scopes.lists.items (number_at units k) k ∙ c.scopes.invariant.long;
      below = subst Q next (subst P (sym is) (members_next units c.args.count c.scopes.lists.items k c.scopes.invariant.long c.scopes.invariant.below));
    }

pub returns : goal.returns
returns c =
    let test = c.scopes-test.false in
    members_all c.args.units.now c.args.count c.scopes.lists.items c.scopes.scope c.scopes.invariant.within (omega (arith, test)) c.scopes.invariant.below
