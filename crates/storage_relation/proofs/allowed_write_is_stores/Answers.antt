use Rattle.storage_relation.proofs.Many.{allowed_write}
use Rattle.storage_relation.proofs.allowed_write_is_stores.Goals as goal

pub returns : goal.returns
returns c = allowed_write
