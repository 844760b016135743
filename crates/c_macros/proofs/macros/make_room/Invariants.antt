use Rattle.std.proofs.Common.{◌≡◌, ℕ, ◌≤◌, ◌+◌, ◌-◌, length, get_or, false}
use Rattle.std.specs.Prelude.{vec_len}
use Rattle.c_macros.proofs.macros.make_room.Given as goal

abbrev pub invariant-loop-flags : goal.invariant-loop-flags
invariant-loop-flags l = record { same : (n : ℕ) → get_or l.flags.items n false ≡ get_or l.fn.flags.items n false; longer : length l.fn.flags.items ≤ length l.flags.items }

abbrev pub decreases-loop-flags : goal.decreases-loop-flags
decreases-loop-flags l = (l.name + 1) - vec_len l.flags
