use Rattle.std.proofs.Common.{◌≡◌, ℕ, ◌<◌, length}
use Rattle.std.specs.Prelude.{slice_index_or}
use Rattle.flatten.specs.declared.blocks.BlockProc.{BlockProc}
use Rattle.block_homes.specs.declared.homes.Assignment.{Assignment}
use Rattle.reg_alloc.specs.All.{IsAssigned}
use Rattle.reg_alloc.proofs.program.assign_all.Given as goal

abbrev pub invariant-loop-proc : goal.invariant-loop-proc
invariant-loop-proc l = record {
  so_far : length l.assignments.items ≡ l.proc-index;
  each : (f : ℕ) (q : BlockProc) (a : Assignment) → f < l.proc-index → IsAssigned (slice_index_or l.fn.procs f q) (slice_index_or l.assignments.items f a);
}
