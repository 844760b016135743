use Rattle.std.proofs.Common.{take}
use Rattle.linker.specs.Names.{asked_of_units}
use Rattle.linker.specs.Table.{AreMissed}
use Rattle.linker.proofs.names.missing_of.Given as goal

abbrev pub invariant-loop-u : goal.invariant-loop-u
invariant-loop-u l = AreMissed (asked_of_units (take l.u-index l.units)) l.table l.missing.items
