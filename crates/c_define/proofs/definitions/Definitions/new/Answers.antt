use Rattle.c_define.proofs.Told.{nothing_told}
use Rattle.c_define.proofs.definitions.Definitions.new.Goals as goal

pub returns : goal.returns
returns c = nothing_told (record { names = c.new.result; others = c.new-2.result.items; written = c.new-3.result.items; state = c.new-4.result }) c.new.ensures c.new-4.ensures
