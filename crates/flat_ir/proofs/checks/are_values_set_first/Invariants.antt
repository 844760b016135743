use Rattle.std.proofs.Common.{◌≡◌}
use Rattle.flat_ir.specs.Checked.{each_below, is_set_first}
use Rattle.flat_ir.specs.View.{proc_of}
use Rattle.flat_ir.proofs.checks.are_values_set_first.Given as goal

abbrev pub invariant-loop-x : goal.invariant-loop-x
invariant-loop-x l = l.all ≡ each_below l.x (is_set_first (proc_of l.f))
