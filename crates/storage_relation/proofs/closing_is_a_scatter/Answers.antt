use Rattle.storage_relation.proofs.Made.{allowed_close}
use Rattle.storage_relation.proofs.closing_is_a_scatter.Goals as goal

pub returns : goal.returns
returns c = allowed_close
