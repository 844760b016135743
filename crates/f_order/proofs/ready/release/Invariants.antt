use Rattle.std.proofs.Common.{◌≡◌, length}
use Rattle.f_order.specs.Ready.{released}
use Rattle.f_order.proofs.ready.release.Given as goal

abbrev pub invariant-users : goal.invariant-users
invariant-users l = released l.graph.modules.now l.done l.rest (l.waiting.counts.items, l.waiting.ready.keys) ≡ released l.graph.modules.now l.done l.users (l.initial.waiting.counts.items, l.initial.waiting.ready.keys)

abbrev pub decreases-users : goal.decreases-users
decreases-users l = length l.rest
