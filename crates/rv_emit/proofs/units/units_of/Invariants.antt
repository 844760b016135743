use Rattle.std.proofs.Common.{◌≡◌, ◌++◌, drop}
use Rattle.emitted_code.specs.Units.{proc_units}
use Rattle.rv_emit.proofs.units.units_of.Given as goal

abbrev pub invariant-loop-p : goal.invariant-loop-p
invariant-loop-p l = l.units.items ++ proc_units l.p (drop l.p l.procs) (drop l.p l.assignments) ≡ proc_units 0 l.procs l.assignments
