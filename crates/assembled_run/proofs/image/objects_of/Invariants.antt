use Rattle.std.proofs.Common.{take}
use Rattle.assembled_run.specs.Program.{AreAssembled}
use Rattle.assembled_run.proofs.image.objects_of.Given as goal

abbrev pub invariant-loop-u : goal.invariant-loop-u
invariant-loop-u l = AreAssembled (take l.u-index l.units) l.objects.items
