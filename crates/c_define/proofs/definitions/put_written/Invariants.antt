use Rattle.std.proofs.Common.{◌≡◌, ◌+◌, ◌-◌, []}
use Rattle.std.specs.Prelude.{vec_len}
use Rattle.c_macros.specs.Keeping.{put}
use Rattle.c_define.proofs.definitions.put_written.Given as goal

abbrev pub invariant-loop-alloc : goal.invariant-loop-alloc
invariant-loop-alloc l = put l.written.items l.number l.fn.tokens [] ≡ put l.fn.written.items l.number l.fn.tokens []

abbrev pub decreases-loop-alloc : goal.decreases-loop-alloc
decreases-loop-alloc l = (l.number + 1) - vec_len l.written
