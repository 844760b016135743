use Rattle.std.proofs.Common.{◌≡◌}
use Rattle.c_resolved.specs.Lists.{each_below}
use Rattle.c_resolved.specs.Units.{definition_fits}
use Rattle.c_resolved.proofs.check_unit.are_definitions.Given as goal

abbrev pub invariant-loop-i : goal.invariant-loop-i
invariant-loop-i l = l.all ≡ each_below l.i (definition_fits l.u)
