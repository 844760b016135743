use Rattle.std.proofs.Common.{◌≡◌, ◌++◌}
use Rattle.assembled_run.specs.Trial.{sums}
use Rattle.assembled_run.proofs.tests.add_sums.Given as goal

abbrev pub invariant-loop : goal.invariant-loop
invariant-loop l = l.lines.items ≡ l.fn.lines.items ++ sums l.counter
