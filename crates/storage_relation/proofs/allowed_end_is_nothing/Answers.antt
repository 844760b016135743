use Rattle.storage_relation.proofs.Made.{allowed_end}
use Rattle.storage_relation.proofs.allowed_end_is_nothing.Goals as goal

pub returns : goal.returns
returns c = allowed_end
