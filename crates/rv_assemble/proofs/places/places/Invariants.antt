use Rattle.rv_assemble.proofs.Pushed.{PlacesTo}
use Rattle.rv_assemble.proofs.places.places.Given as goal

abbrev pub invariant-loop-k : goal.invariant-loop-k
invariant-loop-k l = PlacesTo l.lines l.targets l.wide l.places.items l.k l.end
