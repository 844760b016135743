use Rattle.std.proofs.Common.{subst, sym}
use Rattle.c_types.specs.Tables.{IsTable}
use Rattle.c_types.proofs.Growing.{table-empty}
use Rattle.c_types.proofs.table.Types.new.Goals as goal

pub invariant_of-result : goal.invariant_of-result
invariant_of-result c = subst IsTable (sym c.new.ensures.items) table-empty
