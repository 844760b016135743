use Rattle.std.proofs.Common.{◌+◌, ◌-◌, length}
use Rattle.f_order.specs.Marks.{unmarked}
use Rattle.f_order.proofs.Search.{Searched}
use Rattle.f_order.proofs.reach.reached_from.Given as goal

abbrev pub invariant-found : goal.invariant-found
invariant-found l = Searched l.program l.from (l.found.items, l.marks.items) l.at

abbrev pub decreases-found : goal.decreases-found
decreases-found l = unmarked l.marks.items + (length l.found.items - l.at)
