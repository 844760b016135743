use Rattle.storage_relation.proofs.Run.{step_keeps}
use Rattle.storage_relation.proofs.steps_keep_it.Goals as goal

pub returns : goal.returns
returns c = step_keeps
