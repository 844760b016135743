use Rattle.std.proofs.Common.{◌≡◌, length}
use Rattle.std.specs.Vec.Iter.{into_iter_items, into_iter_len}
use Rattle.c_types.proofs.LayingOut.{Laying}
use Rattle.c_types.proofs.table.Types.lay_out.Given as goal

abbrev pub invariant-loop-name : goal.invariant-loop-name
invariant-loop-name l = Laying l.self l.fn.members.items l.laid l.end l.align (into_iter_items l.name-iterator)
    × (into_iter_len l.name-iterator ≡ length (into_iter_items l.name-iterator))
