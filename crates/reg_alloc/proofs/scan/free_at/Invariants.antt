use Rattle.std.proofs.Common.{ℕ, ◌<◌}
use Rattle.reg_alloc.specs.Scan.{IsBusy}
use Rattle.reg_alloc.proofs.scan.free_at.Given as goal

abbrev pub invariant-loop-r : goal.invariant-loop-r
invariant-loop-r l = (q : ℕ) → q < l.r → IsBusy l.none l.ranges l.users l.k q
