use Rattle.std.proofs.Common.{ℕ, List, Bool, sym, subst}
use Rattle.f_order.specs.Graph.{IsGraph}
use Rattle.f_order.proofs.Edges.{graph_is}
use Rattle.f_order.proofs.order.order_units.Goals as goal

pub order_in-requires-clause-graph : goal.order_in-requires-clause-graph
order_in-requires-clause-graph c =
    let G : List Bool → List Bool → List (List ℕ) → Type 0 = λ a b e. IsGraph c.args.program.now a b e in
    let present = c.in_ok-present.present.items in
    let mods = c.in_ok-modules.modules.items in
    let edges = c.in_ok-edges.edges.items in
    subst (λ a. G a c.as_slice-2.result.now c.as_slice-3.result.now) (sym c.as_slice.ensures.value)
    (subst (λ b. G present b c.as_slice-3.result.now) (sym c.as_slice-2.ensures.value)
    (subst (λ e. G present mods e) (sym c.as_slice-3.ensures.value)
    (graph_is c.args.program.now c.args.units.now c.requires present mods edges c.in_ok-present.ensures c.in_ok-modules.ensures c.in_ok-edges.ensures)))
