use Rattle.std.proofs.Common.{◌≡◌}
use Rattle.c_resolved.specs.Lists.{each_below}
use Rattle.c_resolved.specs.Units.{function_fits}
use Rattle.c_resolved.proofs.check_unit.are_functions.Given as goal

abbrev pub invariant-loop-f : goal.invariant-loop-f
invariant-loop-f l = l.all ≡ each_below l.f (function_fits l.u)
