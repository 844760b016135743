use Rattle.std.proofs.Common.{◌≡◌}
use Rattle.f_resolved.specs.Lists.{each_below}
use Rattle.f_resolved.specs.Declarations.{type_fits}
use Rattle.f_resolved.proofs.check_program.are_types.Given as goal

abbrev pub invariant-loop-t : goal.invariant-loop-t
invariant-loop-t l = l.all ≡ each_below l.t (type_fits l.p)
