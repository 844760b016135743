use Rattle.std.proofs.Common.{◌++◌, ◌≡◌, length}
use Rattle.flat_ir.specs.View.{exprs_of}
use Rattle.flatten.specs.Code.{places_of}
use Rattle.flatten.proofs.expressions.places.Given as goal

abbrev pub invariant-loop-rest : goal.invariant-loop-rest
invariant-loop-rest l = l.places.items ++ places_of (exprs_of l.rest) l.at ≡ places_of (exprs_of l.initial.rest) l.initial.at

abbrev pub decreases-loop-rest : goal.decreases-loop-rest
decreases-loop-rest l = length l.rest
