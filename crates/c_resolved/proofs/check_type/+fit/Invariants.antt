use Rattle.std.proofs.Common.{◌≡◌, map, drop}
use Rattle.c_resolved.specs.Lists.{all_of}
use Rattle.c_resolved.specs.Kinds.{type_fits}
use Rattle.c_resolved.proofs.check_type.+fit.Given as goal

abbrev pub invariant-are_types-types : goal.invariant-are_types-types
invariant-are_types-types l = all_of (map (type_fits l.counts) (drop l.one-index l.all)) ≡ all_of (map (type_fits l.counts) l.all)
