use Rattle.linker.specs.Resolving.{IsDone}
use Rattle.linker.proofs.resolve.resolve_all.Given as goal

abbrev pub invariant-loop-k : goal.invariant-loop-k
invariant-loop-k l = IsDone l.units l.bytes l.k 0
