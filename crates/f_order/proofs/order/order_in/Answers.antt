use Rattle.std.proofs.Common.{ℕ, List, Bool, Option, None, false, replicate, sym, ap, ◌∙◌, subst}
use Rattle.f_order.specs.Graph.{is_other, LeastFound}
use Rattle.f_order.specs.Order.{AreDone, CycleFound}
use Rattle.f_order.proofs.Cycles.{unit_first, open_not, stuck_cycle, ordered_no_cycle}
use Rattle.f_order.proofs.order.order_in.Goals as goal

pub order_modules-requires-clause-done : goal.order_modules-requires-clause-done
order_modules-requires-clause-done c =
    let P : List ℕ → Type 0 = λ l. AreDone c.args.program.now l c.in_ok-done.done.items in
    subst P (sym c.new-order.ensures.items) (unit_first c.args.program.now c.in_ok-done.done.items (c.in_ok-done.ensures ∙ ap (λ n. replicate n false) c.scope_count.ensures))

pub order_modules-requires-clause-none : goal.order_modules-requires-clause-none
order_modules-requires-clause-none c = c.in_ok-done.ensures ∙ ap (λ n. replicate n false) c.scope_count.ensures

pub order_others-requires-clause-modules : goal.order_others-requires-clause-modules
order_others-requires-clause-modules c =
    let m = c.args.graph.now.modules.now in
    let P : List Bool → Type 0 = λ d. LeastFound (λ u. is_other m d u) c.first_other.result in
    let Q : Option ℕ → Type 0 = λ r. LeastFound (λ u. is_other m c.order_modules.new.done.items u) r in
    let are = c.in_ok-order_modules.ensures.are in
    open_not c.args.program.now c.args.graph.now.units.now m c.args.graph.now.edges.now c.requires.graph c.order_modules.new.order.items c.order_modules.new.done.items are (subst Q c.in-None.is (subst P c.as_slice.ensures.value c.first_other.ensures))

pub unreachable-requires : goal.unreachable-requires
unreachable-requires c =
    let m = c.args.graph.now.modules.now in
    let P : List Bool → Type 0 = λ d. LeastFound (λ u. is_other m d u) c.first_other.result in
    let Q : Option ℕ → Type 0 = λ r. LeastFound (λ u. is_other m c.order_modules.new.done.items u) r in
    let done = c.in_ok-order_modules.ensures in
    let least = subst Q c.in-Some.is (subst P c.as_slice.ensures.value c.first_other.ensures) in
    let cycle = stuck_cycle c.args.program.now c.args.graph.now.units.now m c.args.graph.now.edges.now c.requires.graph c.order_modules.new.order.items c.order_modules.new.done.items done.are done.none_next c.in-Some.field-0 least.0 in
    let R : Option ℕ → Type 0 = λ r. CycleFound c.args.program.now.items r in
    let none : CycleFound c.args.program.now.items None = subst R c.in-None-2.is c.in_ok-place-in-Some.ensures in
    none cycle.0 cycle.1

pub returns-in_ok-order_others-in-None : goal.returns-in_ok-order_others-in-None
returns-in_ok-order_others-in-None c = (c.in_ok-order_others-in-None.ensures, ordered_no_cycle c.args.program.now.items c.order_others.new.order.items c.in_ok-order_others-in-None.ensures)
