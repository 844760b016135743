use Rattle.rv_assemble.specs.Places.{IsCodeTo}
use Rattle.rv_assemble.proofs.assembling.code_of.Given as goal

abbrev pub invariant-loop-k : goal.invariant-loop-k
invariant-loop-k l = IsCodeTo l.lines l.targets l.places l.k l.code.items
