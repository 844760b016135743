use Rattle.linker.specs.Resolving.{IsDone}
use Rattle.linker.proofs.resolve.resolve_unit.Given as goal

abbrev pub invariant-loop-r : goal.invariant-loop-r
invariant-loop-r l = IsDone l.units l.bytes l.k l.r-index
