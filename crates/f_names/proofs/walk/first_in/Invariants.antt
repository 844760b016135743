use Rattle.std.proofs.Common.{Option, length}
use Rattle.f_names.specs.declared.walk.Broken.{Broken}
use Rattle.f_names.specs.Walk.{FirstIn}
use Rattle.f_names.proofs.walk.first_in.Given as goal

abbrev pub invariant-places : goal.invariant-places
invariant-places l = (r : Option Broken) → FirstIn l.program.items l.rest r → FirstIn l.program.items l.places r

abbrev pub decreases-places : goal.decreases-places
decreases-places l = length l.rest
