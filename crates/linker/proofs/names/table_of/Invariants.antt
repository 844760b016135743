use Rattle.std.proofs.Common.{take}
use Rattle.linker.specs.Names.{entries_from}
use Rattle.linker.specs.Table.{IsTable}
use Rattle.linker.proofs.names.table_of.Given as goal

abbrev pub invariant-loop-k : goal.invariant-loop-k
invariant-loop-k l = IsTable (entries_from 0 (take l.k l.units)) l.table l.twice.items
