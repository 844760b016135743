use Rattle.std.proofs.Common.{◌≡◌, ◌+◌, ℕ, suc, List, length, sym, ap, ◌∙◌, subst, arith}
use Rattle.f_order.proofs.Edges.{EdgesBelow, edges_next, edges_all, length_put_some}
use Rattle.f_order.proofs.graph.find_edges.Goals as goal

pub items-preserved : goal.items-preserved
items-preserved c =
    let test = c.items-test.true in
    let next : suc c.items.place ≡ c.items.place + 1 = omega arith in
    let Q : ℕ → Type 0 = λ j. EdgesBelow c.args.program.now.items c.put_some.new.lists.items j in
    let P : List (List ℕ) → Type 0 = λ m. EdgesBelow c.args.program.now.items m (suc c.items.place) in
    record {
      within = omega (arith, test);
      long = ap length c.in_ok-put_some.ensures ∙ length_put_some c.items.edges.items c.edge_at.result ∙ c.items.invariant.long;
      below = subst Q next (subst P (sym c.in_ok-put_some.ensures) (edges_next c.args.program.now c.args.units.now c.requires c.items.edges.items c.items.place c.edge_at.result c.items.invariant.long c.edge_at.ensures c.items.invariant.below));
    }

pub returns : goal.returns
returns c =
    let test = c.items-test.false in
    let within = c.items.invariant.within in
    let count = c.item_count-count.ensures in
    edges_all c.args.program.now.items c.items.edges.items c.items.place (omega (arith, test, within, count)) c.items.invariant.below
