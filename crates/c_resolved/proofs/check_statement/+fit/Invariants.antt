use Rattle.std.proofs.Common.{◌≡◌, map, drop}
use Rattle.c_resolved.specs.Lists.{all_of}
use Rattle.c_resolved.specs.Statements.{item_fits}
use Rattle.c_resolved.proofs.check_statement.+fit.Given as goal

abbrev pub invariant-are_items-items : goal.invariant-are_items-items
invariant-are_items-items l = all_of (map (item_fits l.counts l.t) (drop l.one-index l.all)) ≡ all_of (map (item_fits l.counts l.t) l.all)
