use Rattle.std.proofs.Common.{◌≡◌, length}
use Rattle.f_order.specs.Ready.{with_user}
use Rattle.f_order.proofs.ready.put_user.Given as goal

abbrev pub invariant-used : goal.invariant-used
invariant-used l = with_user l.users.items l.unit l.rest ≡ with_user l.initial.users.items l.unit l.used

abbrev pub decreases-used : goal.decreases-used
decreases-used l = length l.rest
