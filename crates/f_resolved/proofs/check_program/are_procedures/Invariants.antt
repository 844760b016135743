use Rattle.std.proofs.Common.{◌≡◌}
use Rattle.f_resolved.specs.Lists.{each_below}
use Rattle.f_resolved.specs.Programs.{procedure_stands}
use Rattle.f_resolved.proofs.check_program.are_procedures.Given as goal

abbrev pub invariant-loop-f : goal.invariant-loop-f
invariant-loop-f l = l.all ≡ each_below l.f (procedure_stands l.p)
