use Rattle.std.proofs.Common.{Option, length}
use Rattle.f_names.specs.declared.walk.Broken.{Broken}
use Rattle.f_names.specs.Walk.{FirstOf}
use Rattle.f_names.proofs.walk.first_of.Given as goal

abbrev pub invariant-units : goal.invariant-units
invariant-units l = (r : Option Broken) → FirstOf l.program.items l.lists l.rest r → FirstOf l.program.items l.lists l.order r

abbrev pub decreases-units : goal.decreases-units
decreases-units l = length l.rest
