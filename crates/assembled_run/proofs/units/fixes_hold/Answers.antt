use Rattle.assembled_run.proofs.Laws.{fix_holds}
use Rattle.assembled_run.proofs.units.fixes_hold.Goals as goal

pub returns : goal.returns
returns c = fix_holds
