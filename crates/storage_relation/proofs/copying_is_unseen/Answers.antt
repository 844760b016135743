use Rattle.storage_relation.proofs.Run.{run_sees}
use Rattle.storage_relation.proofs.copying_is_unseen.Goals as goal

pub returns : goal.returns
returns c = run_sees
