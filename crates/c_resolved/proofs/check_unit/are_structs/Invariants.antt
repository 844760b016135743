use Rattle.std.proofs.Common.{◌≡◌}
use Rattle.c_resolved.specs.Lists.{each_below}
use Rattle.c_resolved.specs.Units.{struct_fits}
use Rattle.c_resolved.proofs.check_unit.are_structs.Given as goal

abbrev pub invariant-loop-s : goal.invariant-loop-s
invariant-loop-s l = l.all ≡ each_below l.s (struct_fits l.counts l.t)
