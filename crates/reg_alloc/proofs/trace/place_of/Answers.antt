use Rattle.std.proofs.Common.{arith}
use Rattle.reg_alloc.proofs.trace.place_of.Goals as goal

pub bounds-places-v : goal.bounds-places-v
bounds-places-v c = omega (arith, c.requires.value, c.requires.facts.places_are.count)
