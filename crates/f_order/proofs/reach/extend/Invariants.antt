use Rattle.std.proofs.Common.{◌≡◌, length}
use Rattle.f_order.specs.Reach.{extended}
use Rattle.f_order.proofs.reach.extend.Given as goal

abbrev pub invariant-numbers : goal.invariant-numbers
invariant-numbers l = extended l.rest (l.found.items, l.marks.items) ≡ extended l.numbers (l.initial.found.items, l.initial.marks.items)

abbrev pub decreases-numbers : goal.decreases-numbers
decreases-numbers l = length l.rest
