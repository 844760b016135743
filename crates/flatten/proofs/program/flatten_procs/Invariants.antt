use Rattle.std.proofs.Common.{◌≡◌, take, map}
use Rattle.flat_ir.specs.View.{procs_of}
use Rattle.flatten.specs.Code.{proc_code}
use Rattle.flatten.proofs.program.flatten_procs.Given as goal

abbrev pub invariant-loop-f : goal.invariant-loop-f
invariant-loop-f l = l.procs.items ≡ map proc_code (procs_of (take l.f-index l.fs))
