use Rattle.std.proofs.Common.{◌≡◌, ◌≤◌, ◌-◌, length}
use Rattle.f_order.proofs.Waits.{UsersBelow}
use Rattle.f_order.proofs.ready.users_of.Given as goal

abbrev pub invariant-units : goal.invariant-units
invariant-units l = record {
  within : l.unit ≤ length l.edges;
  long : length l.users.items ≡ l.count;
  below : UsersBelow l.count l.edges l.users.items l.unit;
}

abbrev pub decreases-units : goal.decreases-units
decreases-units l = length l.edges - l.unit
