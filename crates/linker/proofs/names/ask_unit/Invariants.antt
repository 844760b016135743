use Rattle.std.proofs.Common.{ℕ, List, ◌++◌, take}
use Rattle.linker.specs.Names.{asked_names}
use Rattle.linker.specs.Table.{AreMissed}
use Rattle.linker.proofs.names.ask_unit.Given as goal

abbrev pub invariant-loop-r : goal.invariant-loop-r
invariant-loop-r l = (asked : List (List ℕ)) → AreMissed asked l.table l.initial.missing.items → AreMissed (asked ++ asked_names (take l.r-index l.relocations)) l.table l.missing.items
