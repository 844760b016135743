use Rattle.std.proofs.Common.{◌≡◌, map, drop}
use Rattle.c_resolved.specs.Lists.{all_of}
use Rattle.c_resolved.specs.Declarations.{initializer_fits}
use Rattle.c_resolved.proofs.check_declaration.+fit.Given as goal

abbrev pub invariant-are_initializers-initializers : goal.invariant-are_initializers-initializers
invariant-are_initializers-initializers l = all_of (map (initializer_fits l.counts l.t) (drop l.one-index l.all)) ≡ all_of (map (initializer_fits l.counts l.t) l.all)
