use Rattle.std.proofs.Common.{◌≡◌, drop}
use Rattle.back_end.specs.Suffices.{all_placed}
use Rattle.back_end.proofs.tests.room.all_placed.Given as goal

abbrev pub invariant-loop-p : goal.invariant-loop-p
invariant-loop-p l = l.all ≡ all_placed l.e l.p (drop l.p l.procs)
