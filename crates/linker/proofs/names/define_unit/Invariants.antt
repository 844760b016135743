use Rattle.std.proofs.Common.{List, ◌++◌, take}
use Rattle.linker.specs.Names.{Entry, unit_entries}
use Rattle.linker.specs.Table.{IsTable}
use Rattle.linker.proofs.names.define_unit.Given as goal

abbrev pub invariant-loop-name : goal.invariant-loop-name
invariant-loop-name l = (entries : List Entry) → IsTable entries l.initial.table l.initial.twice.items → IsTable (entries ++ unit_entries l.unit (take l.name-index l.names)) l.table l.twice.items
