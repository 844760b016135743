use Rattle.std.proofs.Common.{◌≡◌, ℕ, ◌≤◌, ◌+◌, ◌-◌, max, length, get_or, false}
use Rattle.std.specs.Prelude.{vec_len}
use Rattle.c_macros.specs.Keeping.{put}
use Rattle.c_macros.proofs.macros.put_flag.Given as goal

abbrev pub invariant-loop-flags : goal.invariant-loop-flags
invariant-loop-flags l = record {
  size : length l.flags.items ≤ max (length l.fn.flags.items) (l.name + 1);
  same : (n : ℕ) → get_or l.flags.items n false ≡ get_or l.fn.flags.items n false;
  value : put l.flags.items l.name l.up false ≡ put l.fn.flags.items l.name l.up false;
}

abbrev pub decreases-loop-flags : goal.decreases-loop-flags
decreases-loop-flags l = (l.name + 1) - vec_len l.flags
