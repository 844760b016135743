use Rattle.f_order.specs.Marks.{unmarked}
use Rattle.f_order.proofs.Waits.{Progress}
use Rattle.f_order.proofs.order.order_modules.Given as goal

abbrev pub invariant-modules : goal.invariant-modules
invariant-modules l = Progress l.program l.graph.modules.now l.graph.edges.now l.order.items l.done.items (l.waiting.counts.items, l.waiting.ready.keys)

abbrev pub decreases-modules : goal.decreases-modules
decreases-modules l = unmarked l.done.items
