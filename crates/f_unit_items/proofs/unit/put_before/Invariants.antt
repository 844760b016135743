use Rattle.std.proofs.Common.{◌≡◌, ◌++◌, vec_len}
use Rattle.f_unit_items.proofs.unit.put_before.Given as goal

abbrev pub invariant-items : goal.invariant-items
invariant-items l = l.left.items ++ l.out ≡ l.fn.before.items ++ l.fn.out

abbrev pub decreases-items : goal.decreases-items
decreases-items l = vec_len l.left
