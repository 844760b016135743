use Rattle.std.proofs.Common.{◌≡◌}
use Rattle.f_resolved.specs.Lists.{each_below}
use Rattle.f_resolved.specs.Programs.{module_fits}
use Rattle.f_resolved.proofs.check_program.are_modules.Given as goal

abbrev pub invariant-loop-m : goal.invariant-loop-m
invariant-loop-m l = l.all ≡ each_below l.m (module_fits l.p)
