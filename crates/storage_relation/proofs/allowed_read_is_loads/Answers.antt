use Rattle.storage_relation.proofs.Many.{allowed_read}
use Rattle.storage_relation.proofs.allowed_read_is_loads.Goals as goal

pub returns : goal.returns
returns c = allowed_read
