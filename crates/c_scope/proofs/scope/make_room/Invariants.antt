use Rattle.std.proofs.Common.{◌≡◌, ℕ, ◌+◌, ◌-◌, ◌≤◌, false, get_or, length}
use Rattle.c_scope.proofs.scope.make_room.Given as goal

abbrev pub invariant-loop-kinds : goal.invariant-loop-kinds
invariant-loop-kinds l = ((k : ℕ) → get_or l.kinds.items k false ≡ get_or l.fn.kinds.items k false) × (length l.fn.kinds.items ≤ length l.kinds.items)

abbrev pub decreases-loop-kinds : goal.decreases-loop-kinds
decreases-loop-kinds l = l.name + 1 - length l.kinds.items
